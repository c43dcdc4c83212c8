-- Two ports and two rounds or more: a request is served within three slots.
--
-- Where its input is not the one that its output grants, and that one takes the other output, the second round serves
-- the request: its input and its output are left alone.
use Rattle.std.proofs.Common.{◌≡◌, ℕ, ◌+◌, ◌<◌, ◌≤◌, ◌∙◌, List, Option, None, Some, length, map, All, Any, refl, ap, sym, subst, inl, inr, arith}
use Rattle.std.proofs.lemmas.Bool.{cases_eq, cases_lt}
use Rattle.std.proofs.lemmas.Option.{none-some}
use Rattle.rotating_pick.specs.Rotation.{distance, IsFirstFrom}
use Rattle.rotating_pick.specs.declared.kinds.Kind.{Kind}
use Rattle.rotating_pick.specs.declared.kinds.Kind.TheVariants.{Uni}
use Rattle.rotating_pick.specs.declared.limits.TheConstants.{LEVELS}
use Rattle.rotating_pick.proofs.Circle.{distance-lt}
use Rattle.rotating_pick.proofs.Picking.{IsFirstFrom-some, distance-injective}
use Rattle.slot_match.specs.declared.rows.Row.{Row}
use Rattle.slot_match.specs.declared.matching.Fed.{Fed}
use Rattle.slot_match.specs.Rows.{Names, row_of}
use Rattle.slot_match.specs.Matches.{unmatched, fed_of, Serves, IsFreeInput, IsFreeOutput}
use Rattle.slot_match.proofs.Kept.{nobody_at_first}
use Rattle.slot_match.proofs.Pairs.{Serves-once, Serves-from, fed_of-lt}
use Rattle.pointer_state.specs.Places.{Places, ArePointing, grant_of, accept_of}
use Rattle.eslip_rounds.specs.Rounds.{preferred, Requests, Grants, Accepts, IsRound}
use Rattle.eslip_rounds.specs.Slots.{AreMoved}
use Rattle.eslip_rounds.specs.Schedules.{DecidedSlot}
use Rattle.eslip_rounds.proofs.Bests.{taken_from}
use Rattle.eslip_rounds.proofs.Deciding.{Names-decides}
use Rattle.service_bound.specs.Windows.{IsClean, IsWithoutMulticast, InFirst, IsWindow}
use Rattle.service_bound.proofs.Distances.{distance-passed, distance-beyond}
use Rattle.service_bound.proofs.FirstRound.{grants_first, asks_at_first}
use Rattle.service_bound.proofs.LaterRounds.{first_of, second_of, BeginsWith, BeginsWith-slot}
use Rattle.service_bound.proofs.Granting.{kind_alone, kind_is_first, served_by_first, refused}
use Rattle.service_bound.proofs.Fresh.{accept_later}
use Rattle.service_bound.specs.Waits.{noted_of, longest_wait}
use Rattle.service_bound.proofs.InWindows.{AreMoved-keep, IsWindowSlot}
use Rattle.service_bound.proofs.AllBelow.{longest_wait-below}
use Rattle.service_bound.proofs.Falling.{IsBound, bound_by, unicast_rows, unicast_in}

-- of two ports, what is not one is the other
other_of_two : (a b c : ℕ) → a < 2 → b < 2 → c < 2 → (a ≡ b → ⊥) → (c ≡ b → ⊥) → a ≡ c
other_of_two a b c a_in b_in c_in a_not c_not = omega arith

module _ (t level : ℕ) (rows : List Row) (first : List (Option Fed)) (places : Places) (level_in : level < LEVELS)
    (opening : IsRound 2 t rows places (unmatched 2) first) (pointing : ArePointing 2 level places) (clean : IsClean 2 level rows)
    (alone : IsWithoutMulticast 2 level rows) (length_first : length first ≡ 2) where
  module _ (i j h y : ℕ) (i_in : i < 2) (j_in : j < 2) (h_in : h < 2) (y_in : y < 2) (named : Names (row_of rows i) level Uni j) (other : h ≡ i → ⊥)
      (apart : y ≡ j → ⊥) (granted : Grants 2 t rows places (unmatched 2) h j level Uni) (served : Serves first h y level Uni)
      (nobody : (x : ℕ) → Serves first x j level Uni → ⊥) where
    -- an output that grants at the level serves at no other, and no multicast
    at_level : (x l : ℕ) (k : Kind) → Serves first x j l k → (l ≡ level) × (k ≡ Uni)
    at_level x l k s = elim ((opening.pairs x j l k).0 s) [
      | inl old ↦ absurd (nobody_at_first 2 x j l k old)
      | inr accepted ↦
          let also : Grants 2 t rows places (unmatched 2) x j l k =
          taken_from k 2 (accept_of places x l) (λ z. Grants 2 t rows places (unmatched 2) x z l k) j accepted.taken in
          let down = granted.best.least l k also.best.there in
          let up = also.best.least level Uni granted.best.there in
          let same : l ≡ level = omega arith in
          (same, sym (kind_of same also))
    ] where
      kind_of : l ≡ level → Grants 2 t rows places (unmatched 2) x j l k → Uni ≡ k
      kind_of same also =
          let here : Requests rows (unmatched 2) x j level k = subst (λ m. Requests rows (unmatched 2) x j m k) same also.first.member in
          kind_alone 2 t level rows first places level_in opening pointing clean alone k x j also.first.below (asks_at_first 2 rows x j level k here).named

    output_free : IsFreeOutput first j
    output_free = go (fed_of first j) refl where
      go : (o : Option Fed) → fed_of first j ≡ o → fed_of first j ≡ None
      go None e = e
      go (Some f) e =
          let s = Serves-from first j f e in
          let at = at_level f.input f.level f.kind s in
          absurd (nobody f.input (subst (λ k. Serves first f.input j level k) at.1 (subst (λ l. Serves first f.input j l f.kind) at.0 s)))

    -- the request's own input is matched with no output
    input_free : IsFreeInput first i
    input_free z l k s = elim (cases_eq z j) [
      | inl same ↦
          absurd (none-some (record { input = i; level = l; kind = k }) (sym output_free ∙ subst (λ v. Serves first i v l k) same s))
      | inr differs ↦
          let below = fed_of-lt first z (record { input = i; level = l; kind = k }) s in
          let same : z ≡ y = other_of_two z j y (omega arith) j_in y_in differs apart in
          other (Serves-once first y h i level l Uni k served (subst (λ v. Serves first i v l k) same s)).0
    ]

    asks_on : Requests rows first i j level Uni
    asks_on = inl (input_free, record { level_in = level_in; named = named; best = λ better also less there. clean i better j also i_in less there })

    named_of : (x z l : ℕ) (k : Kind) → Requests rows first x z l k → Names (row_of rows x) l k z
    named_of x z l k asks = elim asks [ inl free ↦ free.1.named | inr on ↦ subst (λ q. Names (row_of rows x) l q z) (sym on.multicast) on.named ]

    not_better : (x z l : ℕ) (k : Kind) → x < 2 → Requests rows first x z l k → level ≤ l
    not_better x z l k x_in asks = elim (cases_lt l level) [ inl better ↦ absurd (clean x l z k x_in better (named_of x z l k asks)) | inr worse ↦ worse ]

    first_kind_of : (x z : ℕ) → x < 2 → Requests rows first x z level (preferred t) → Uni ≡ preferred t
    first_kind_of x z x_in asks = (kind_is_first 2 t level rows first places level_in opening pointing clean alone).preferred_first x z x_in
        (named_of x z level (preferred t) asks)

    -- the input that took the other output asks no more
    asks_alone : (x : ℕ) → x < 2 → Requests rows first x j level Uni → x ≡ i
    asks_alone x x_in asks = elim asks [
      | inl free ↦ other_of_two x h i x_in h_in i_in (λ same. free.0 y level Uni (subst (λ v. Serves first v y level Uni) (sym same) served))
          (λ e. other (sym e))
      | inr on ↦ let multicast = on.multicast in absurd (cc)
    ]

    free_alone : (z : ℕ) → z < 2 → IsFreeOutput first z → z ≡ j
    free_alone z z_in free =
        other_of_two z y j z_in y_in j_in
        (λ same. none-some (record { input = h; level = level; kind = Uni }) (sym (subst (IsFreeOutput first) same free) ∙ served))
        (λ e. apart (sym e))

    granted_second : Grants 2 t rows places first i j level Uni
    granted_second = record {
      output_in = j_in;
      output_free = output_free;
      best = record {
        there = (i, i_in, asks_on);
        least = λ l k asks. not_better asks.0 j l k asks.1 asks.2;
        preferred_first = λ asks. first_kind_of asks.0 j asks.1 asks.2;
      };
      first = record {
        below = i_in;
        member = asks_on;
        least = λ x x_in asks. let e = ap (distance 2 (grant_of places j level)) (asks_alone x x_in asks) in
            omega arith;
      };
    }

    accepted_second : Accepts 2 t rows places first i j level Uni
    accepted_second = record {
      best = record {
        there = (j, granted_second);
        least = λ l k grants. not_better i grants.0 l k i_in grants.1.first.member;
        preferred_first = λ grants. first_kind_of i grants.0 i_in grants.1.first.member;
      };
      taken = record {
        below = j_in;
        member = granted_second;
        least = λ z z_in grants. let e = ap (distance 2 (accept_of places i level)) (free_alone z z_in grants.output_free) in omega arith;
      };
    }

    -- the second round serves the request
    pub served_second : (second : List (Option Fed)) → IsRound 2 t rows places first second → Serves second i j level Uni
    served_second second round = (round.pairs i j level Uni).1 (inr accepted_second)

-- the rank of a request: how far its input is from the grant pointer, and its output from the accept pointer
abbrev two_rank : ℕ → ℕ → ℕ → Places → ℕ
two_rank level i j places = distance 2 (grant_of places j level) i + distance 2 (accept_of places i level) j

-- Where these rows are posted: the input asks, and the rank is below `most`.
record AsksWithin (level i j : ℕ) (places : Places) (most : ℕ) (rows : List Row) : Type 0 where
  named : Names (row_of rows i) level Uni j
  below : two_rank level i j places < most

module _ (rounds level i j : ℕ) (two : 1 < rounds) (i_in : i < 2) where
  module _ (t : ℕ) (places : Places) (slot : DecidedSlot) (now : IsWindowSlot 2 rounds t level places slot) (alone : IsWithoutMulticast 2 level slot.rows)
      (named : Names (row_of slot.rows i) level Uni j) (left : Serves slot.decision.matched i j level Uni → ⊥) where
    First : List (Option Fed)
    First = first_of 2 now.decided.steps

    begins : BeginsWith 2 t slot.rows places First slot.decision.matched
    unfolding First
    begins = BeginsWith-slot 2 t slot.rows places AreMoved rounds slot.decision (omega arith) now.decided

    moved : AreMoved 2 t slot.rows First slot.decision.matched places slot.decision.places
    unfolding First
    moved = now.decided.moved

    level_in : level < LEVELS
    level_in = now.within.levels i i_in level j Uni named

    j_in : j < 2
    j_in = now.within.ports i i_in level j Uni named

    falls_where_accepted : (h : ℕ) → IsFirstFrom 2 (grant_of places j level) (λ x. Names (row_of slot.rows x) level Uni j) h → Serves First h j level Uni
        → two_rank level i j slot.decision.places + 1 ≤ two_rank level i j places
    falls_where_accepted h nearest served =
        let other : h ≡ i → ⊥ = λ same. left (subst (λ x. Serves slot.decision.matched x j level Uni) same (begins.stays h j level Uni served)) in
        let from_in = now.pointing.grant j j_in in
        let at_most = nearest.least i i_in named in
        let apart : distance 2 (grant_of places j level) h ≡ distance 2 (grant_of places j level) i
        → ⊥ = λ e. other (distance-injective 2 (grant_of places j level) h i from_in nearest.below i_in e) in
        let nearer = distance-passed 2 (grant_of places j level) h i from_in nearest.below i_in (omega arith) in
        let place = moved.granted h j level served in
        let closer : distance 2 (grant_of slot.decision.places j level) i + 1 ≤ distance 2 (grant_of places j level) i = rw place (omega arith) in
        elim (accept_later 2 t level slot.rows First slot.decision.matched begins.opening.count places slot.decision.places moved now.pointing i j i_in j_in) [
          | inl also ↦ absurd (other (Serves-once First j h i level level Uni Uni served also).0)
          | inr later ↦ elim later [ inl beyond ↦ omega arith | inr stays ↦ omega arith ]
        ]

    falls_where_refused : (h y : ℕ) → IsFirstFrom 2 (grant_of places j level) (λ x. Names (row_of slot.rows x) level Uni j) h
        → Grants 2 t slot.rows places (unmatched 2) h j level Uni
        → IsFirstFrom 2 (accept_of places h level) (λ k. Grants 2 t slot.rows places (unmatched 2) h k level Uni) y → Serves First h y level Uni → (y ≡ j → ⊥)
        → two_rank level i j slot.decision.places + 1 ≤ two_rank level i j places
    unfolding First
    falls_where_refused h y nearest granted accepted served other =
        let h_in = nearest.below in
        let y_in = accepted.below in
        let nobody = refused 2 t level slot.rows First places level_in begins.opening now.pointing now.clean alone h j y granted accepted other in
        elim (cases_eq h i) [
          | inl same ↦
              let stays = moved.grant_stays j level nobody in
              let goes = moved.accepted h y level served in
              let beyond = distance-beyond 2 y j y_in j_in other in
              let before = accepted.least j j_in granted in
              let apart : distance 2 (accept_of places h level) y ≡ distance 2 (accept_of places h level) j
              → ⊥ = λ e. other (distance-injective 2 (accept_of places h level) y j (now.pointing.accept h h_in) y_in j_in e) in
              let fewer : distance 2 (accept_of slot.decision.places h level) j + 1 ≤ distance 2 (accept_of places h level) j = rw goes (omega arith) in
              let own : distance 2 (accept_of slot.decision.places i level) j + 1 ≤ distance 2 (accept_of places i level) j =
              subst (λ x. distance 2 (accept_of slot.decision.places x level) j + 1 ≤ distance 2 (accept_of places x level) j) same fewer in
              let far = ap (λ from. distance 2 from i) stays in
              omega arith
          | inr differs ↦
              let count = now.decided.count in
              let second = second_of 2 t slot.rows places now.decided.steps (omega arith) now.decided.chain in
              let serves = served_second t level slot.rows First places level_in begins.opening now.pointing now.clean alone begins.opening.count i j h y i_in
              j_in h_in y_in named differs other granted served nobody second.0 second.1 in
              absurd (left (subst (λ m. Serves m i j level Uni) (sym now.decided.result) (second.2 i j level Uni serves)))
        ]

    rank_falls : two_rank level i j slot.decision.places + 1 ≤ two_rank level i j places
    rank_falls =
        let nearest = IsFirstFrom-some 2 (grant_of places j level) (λ x. Names (row_of slot.rows x) level Uni j)
        (λ x. Names-decides (row_of slot.rows x) level Uni j) (now.pointing.grant j j_in) i i_in named in
        let h = nearest.0 in
        let granted = grants_first 2 t slot.rows places level level_in now.clean Uni
        (kind_is_first 2 t level slot.rows First places level_in begins.opening now.pointing now.clean alone) h j j_in nearest.1 in
        let met = served_by_first 2 t level slot.rows First places level_in begins.opening now.pointing now.clean alone h j nearest.1.below granted in
        elim (cases_eq met.0 j) [
          | inl same ↦ falls_where_accepted h nearest.1 (subst (λ y. Serves First h y level Uni) same met.2)
          | inr other ↦ falls_where_refused h met.0 nearest.1 granted met.1 met.2 other
        ]

  two_bound : IsBound (unicast_rows 2 level) AreMoved 2 rounds level i j 3
  two_bound =
      bound_by (unicast_rows 2 level) AreMoved 2 rounds level i j 3 (record {
        AsksWithin = AsksWithin level i j;
        keep = AreMoved-keep 2 level;
        positive = omega arith;
        begins = λ t places slot now held named.
            let far = distance-lt 2 (grant_of places j level) i (now.pointing.grant j (now.within.ports i i_in level j Uni named)) in
            let turns = distance-lt 2 (accept_of places i level) j (now.pointing.accept i i_in) in
            record { named = named; below = omega (arith, far, turns) };
        some = λ places most rows pointing within asks. let below = asks.below in omega (arith, below);
        falls = λ t places slot most now held left asks later follow on.
            let window : IsWindowSlot 2 rounds t level places slot = record {
              pointing = now.pointing;
              decided = now.decided;
              within = now.within;
              clean = held.0;
            } in
            let lower = rank_falls t places slot window held.1 asks.named left in
            let below = asks.below in
            record { named = on i i_in asks.named left; below = omega (arith, lower, below) };
      })

-- three slots are enough
pub two_served_in_time : (rounds t level i j : ℕ) (places : Places) (slots : List DecidedSlot) → 1 < rounds → i < 2 → IsWindow 2 rounds t level places slots
    → All (λ slot. IsWithoutMulticast 2 level slot.rows) slots → InFirst (λ rows. Names (row_of rows i) level Uni j) slots
    → 3 ≤ length slots → Any (λ slot. Serves slot.decision.matched i j level Uni) slots
two_served_in_time rounds t level i j places slots two i_in window alone =
    (two_bound rounds level i j two i_in).served t places slots
    (unicast_in AreMoved 2 rounds t level places slots (record { window = window; alone = alone }))

-- and no queue waits for as many
pub two_longest_wait-bound : (rounds t level : ℕ) (places : Places) (slots : List DecidedSlot) → 1 < rounds → IsWindow 2 rounds t level places slots
    → All (λ slot. IsWithoutMulticast 2 level slot.rows) slots → longest_wait 2 level (map noted_of slots) < 3
two_longest_wait-bound rounds t level places slots two window alone =
    let so = unicast_in AreMoved 2 rounds t level places slots (record { window = window; alone = alone }) in
    longest_wait-below 2 level 3 (map noted_of slots) (omega arith) (λ i j i_in j_in. (two_bound rounds level i j two i_in).waits t places slots so)
