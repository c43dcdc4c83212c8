-- The rank of a request: it falls in each slot in which its output is asked as unicast of the level alone and the
-- request is not served.
use Rattle.std.proofs.Common.{◌≡◌, ℕ, ◌+◌, ◌*◌, ◌%◌, ◌<◌, ◌≤◌, List, Option, subst, inl, inr, arith}
use Rattle.std.proofs.Math.Nat.{mul-le-mul_left}
use Rattle.std.proofs.lemmas.Bool.{cases_eq}
use Rattle.rotating_pick.specs.Rotation.{distance, IsFirstFrom}
use Rattle.rotating_pick.specs.declared.kinds.Kind.TheVariants.{Uni}
use Rattle.rotating_pick.specs.declared.limits.TheConstants.{LEVELS}
use Rattle.rotating_pick.proofs.Circle.{distance-lt}
use Rattle.rotating_pick.proofs.Picking.{IsFirstFrom-some, distance-injective}
use Rattle.slot_match.specs.declared.rows.Row.{Row}
use Rattle.slot_match.specs.declared.matching.Fed.{Fed}
use Rattle.slot_match.specs.Rows.{Names, row_of}
use Rattle.slot_match.specs.Matches.{unmatched, Serves}
use Rattle.pointer_state.specs.Places.{Places, ArePointing, grant_of, accept_of}
use Rattle.eslip_rounds.specs.Rounds.{Grants}
use Rattle.eslip_rounds.proofs.Deciding.{Names-decides}
use Rattle.service_bound.specs.Windows.{IsQuietFor}
use Rattle.service_bound.proofs.Distances.{distance-passed, distance-reached, distance-own}
use Rattle.service_bound.proofs.LaterRounds.{BeginsWith}
use Rattle.service_bound.proofs.Granting.{quiet_grants, quiet_served, quiet_refused}
use Rattle.firm_rounds.specs.Slots.{AreMovedByFirm}

-- Where these rows are posted: the input asks, and the rank of its request is below `most`. The rank is n times the
-- distance of the input from the output's grant pointer; where the input at that pointer asks too, it is more by the
-- distance of the output from that input's accept pointer.
pub record RanksBelow (n level i j : ℕ) (places : Places) (most : ℕ) (rows : List Row) : Type 0 where
  pub named : Names (row_of rows i) level Uni j
  pub far : n * distance n (grant_of places j level) i < most
  pub near : Names (row_of rows (grant_of places j level)) level Uni j
      → n * distance n (grant_of places j level) i + distance n (accept_of places (grant_of places j level) level) j < most

-- an input that is nearer has a lower rank, whatever accept pointer counts
lower_by_far : (n far far_later turns most : ℕ) → far_later < far → n * far < most + 1 → turns < n → n * far_later + turns < most
lower_by_far n far far_later turns most nearer below turns_in =
    let scaled : n * (far_later + 1) ≤ n * far = mul-le-mul_left n (omega arith) in
    omega (arith, scaled)

-- every rank is below n * n
below_all : (n far turns : ℕ) → far < n → turns < n → n * far + turns < n * n
below_all n far turns far_in turns_in =
    let scaled : n * (far + 1) ≤ n * n = mul-le-mul_left n (omega arith) in
    omega (arith, scaled)

-- at first
pub RanksBelow-all : (n level i j : ℕ) (places : Places) (rows : List Row) → ArePointing n level places → j < n → Names (row_of rows i) level Uni j
    → RanksBelow n level i j places (n * n) rows
RanksBelow-all n level i j places rows pointing j_in named =
    let far_in = distance-lt n (grant_of places j level) i (pointing.grant j j_in) in
    let turns_in = distance-lt n (accept_of places (grant_of places j level) level) j (pointing.accept (grant_of places j level) (pointing.grant j j_in)) in
    let below = below_all n (distance n (grant_of places j level) i) (distance n (accept_of places (grant_of places j level) level) j) far_in turns_in in
    record { named = named; far = omega (arith, below); near = λ asking. below }

module _ (n t level : ℕ) (rows : List Row) (first matched : List (Option Fed)) (before after : Places) (level_in : level < LEVELS)
    (begins : BeginsWith n t rows before first matched) (moved : AreMovedByFirm n t rows first matched before after) (pointing : ArePointing n level before)
    (pointing_after : ArePointing n level after) where
  module _ (i j most : ℕ) (i_in : i < n) (j_in : j < n) (quiet : IsQuietFor n level j rows) (ranks : RanksBelow n level i j before (most + 1) rows)
      (left : Serves matched i j level Uni → ⊥) (later : List Row) (named : Names (row_of later i) level Uni j) where
    -- the rank falls where the input is nearer after the slot
    falls_where_nearer : distance n (grant_of after j level) i < distance n (grant_of before j level) i → RanksBelow n level i j after most later
    falls_where_nearer nearer =
        let g : ℕ = grant_of after j level in
        let turns_in = distance-lt n (accept_of after g level) j (pointing_after.accept g (pointing_after.grant j j_in)) in
        let lower = lower_by_far n (distance n (grant_of before j level) i) (distance n g i) (distance n (accept_of after g level) j) most nearer ranks.far
        turns_in in
        record { named = named; far = omega (arith, lower); near = λ asking. lower }

    -- the input h that is granted took the output: the grant pointer passes it, and comes nearer to i
    falls_where_accepted : (h : ℕ) → IsFirstFrom n (grant_of before j level) (λ x. Names (row_of rows x) level Uni j) h
        → Serves first h j level Uni → RanksBelow n level i j after most later
    falls_where_accepted h nearest served =
        let from_in = pointing.grant j j_in in
        let place : grant_of after j level ≡ (h + 1) % n = moved.granted h j level served in
        let other : h ≡ i → ⊥ = λ same. left (subst (λ x. Serves matched x j level Uni) same (begins.stays h j level Uni served)) in
        let at_most = nearest.least i i_in ranks.named in
        let apart : distance n (grant_of before j level) h ≡ distance n (grant_of before j level) i
        → ⊥ = λ e. other (distance-injective n (grant_of before j level) h i from_in nearest.below i_in e) in
        let passed = distance-passed n (grant_of before j level) h i from_in nearest.below i_in (omega arith) in
        falls_where_nearer (rw place (omega arith))

    -- the input h that is granted took another output y: the grant pointer comes to h, whose accept pointer passes y
    falls_where_refused : (h y : ℕ) → IsFirstFrom n (grant_of before j level) (λ x. Names (row_of rows x) level Uni j) h
        → Grants n t rows before (unmatched n) h j level Uni
        → IsFirstFrom n (accept_of before h level) (λ k. Grants n t rows before (unmatched n) h k level Uni) y → Serves first h y level Uni → (y ≡ j → ⊥)
        → RanksBelow n level i j after most later
    falls_where_refused h y nearest granted accepted served other =
        let h_in = nearest.below in
        let from_in = pointing.grant j j_in in
        let accept_in = pointing.accept h h_in in
        let nobody = quiet_refused n t level rows first before level_in begins.opening pointing j j_in quiet h y h_in granted accepted other in
        let place : grant_of after j level ≡ h =
        moved.held h j level (granted, λ accepts. nobody h ((begins.opening.pairs h j level Uni).1 (inr accepts))) in
        let at_most = nearest.least i i_in ranks.named in
        let reached = distance-reached n (grant_of before j level) h i from_in h_in i_in at_most in
        elim (cases_eq (grant_of before j level) h) [
          | inr away ↦
              let own = distance-own n (grant_of before j level) from_in in
              let apart : distance n (grant_of before j level) (grant_of before j level) ≡ distance n (grant_of before j level) h
              → ⊥ = λ e. away (distance-injective n (grant_of before j level) (grant_of before j level) h from_in from_in h_in e) in
              falls_where_nearer (rw place (omega arith))
          | inl at ↦
              let P : ℕ → Type 0 = λ g. Names (row_of rows g) level Uni j → n * distance n g i + distance n (accept_of before g level) j < most + 1 in
              let near : n * distance n h i + distance n (accept_of before h level) j < most + 1 = subst P at ranks.near nearest.member in
              let apart : distance n (accept_of before h level) y ≡ distance n (accept_of before h level) j
              → ⊥ = λ e. other (distance-injective n (accept_of before h level) y j accept_in accepted.below j_in e) in
              let before_j = accepted.least j j_in granted in
              let passed = distance-passed n (accept_of before h level) y j accept_in accepted.below j_in (omega arith) in
              let turned : accept_of after h level ≡ (y + 1) % n = moved.accepted h y level served in
              let closer : distance n (accept_of after h level) j < distance n (accept_of before h level) j = rw turned (omega arith) in
              record { named = named; far = rw place (omega (arith, near, closer)); near = λ asking. rw place (omega (arith, near, closer)) }
        ]

    -- either way the rank falls
    pub rank_falls : RanksBelow n level i j after most later
    rank_falls =
        let nearest = IsFirstFrom-some n (grant_of before j level) (λ x. Names (row_of rows x) level Uni j) (λ x. Names-decides (row_of rows x) level Uni j)
        (pointing.grant j j_in) i i_in ranks.named in
        let h = nearest.0 in
        let granted = quiet_grants n t level rows first before level_in begins.opening pointing j j_in quiet h nearest.1 in
        let met = quiet_served n t level rows first before level_in begins.opening pointing j j_in quiet h nearest.1.below granted in
        elim (cases_eq met.0 j) [
          | inl same ↦ falls_where_accepted h nearest.1 (subst (λ y. Serves first h y level Uni) same met.2)
          | inr other ↦ falls_where_refused h met.0 nearest.1 granted met.1 met.2 other
        ]
