-- Rows at line rate in which a request's rank is less by one than it is in general: two classes, and what a slot makes of them.
use Rattle.std.proofs.Common.{◌≡◌, ℕ, ◌+◌, ◌-◌, ◌%◌, ◌<◌, ◌≤◌, ◌⊎◌, min, List, Option, ap, sym, subst, inl, inr, arith}
use Rattle.std.proofs.lemmas.Bool.{cases_eq}
use Rattle.std.proofs.lemmas.Nat.{mod_below}
use Rattle.rotating_pick.specs.Rotation.{distance}
use Rattle.rotating_pick.specs.declared.kinds.Kind.TheVariants.{Uni}
use Rattle.rotating_pick.specs.declared.limits.TheConstants.{LEVELS}
use Rattle.rotating_pick.proofs.Circle.{distance-lt}
use Rattle.rotating_pick.proofs.Picking.{Decides, IsFirstFrom-some, distance-injective}
use Rattle.slot_match.specs.declared.rows.Row.{Row}
use Rattle.slot_match.specs.declared.matching.Fed.{Fed}
use Rattle.slot_match.specs.Rows.{Names, row_of}
use Rattle.slot_match.specs.Matches.{Serves}
use Rattle.slot_match.proofs.Kept.{nobody_at_first}
use Rattle.slot_match.proofs.Pairs.{Serves-decides, fed_of-lt}
use Rattle.pointer_state.specs.Places.{Places, ArePointing, grant_of, accept_of}
use Rattle.eslip_rounds.specs.Slots.{AreMoved}
use Rattle.eslip_rounds.proofs.Deciding.{some_below, Names-decides, both}
use Rattle.service_bound.specs.Windows.{IsClean, IsWithoutMulticast}
use Rattle.service_bound.proofs.Sums.{sum_below-le, sum_below-less, sum_below-two}
use Rattle.service_bound.proofs.Distances.{distance-passed, distance-beyond, distance-next, distance-last, distance-own, next-injective}
use Rattle.service_bound.proofs.Rank.{fresh_at}
use Rattle.service_bound.proofs.Fresh.{fresh_for, fresh_of, no_fresher-refused}
use Rattle.service_bound.proofs.FirstRound.{grants_first}
use Rattle.service_bound.proofs.LaterRounds.{BeginsWith}
use Rattle.service_bound.proofs.Granting.{kind_is_first, served_by_first}

-- Input i is as far as can be from output j's grant pointer, and the accept pointers of all others are one beyond j.
pub record IsFarAmongFresh (n level i j : ℕ) (places : Places) : Type 0 where
  pub far : distance n (grant_of places j level) i + 1 ≡ n
  pub fresh : (x : ℕ) → x < n → (x ≡ i → ⊥) → distance n (accept_of places x level) j + 1 ≡ n

-- output j + 1 points one beyond input i
abbrev pub HasPassed : ℕ → ℕ → ℕ → ℕ → Places → Type 0
HasPassed n level i j places = distance n (grant_of places ((j + 1) % n) level) i + 1 ≡ n

-- Class A: so it is, input i alone asks for output j, and i is fresh too, or output j + 1 points one beyond it.
pub record IsAlone (n level i j : ℕ) (places : Places) (rows : List Row) : Type 0 where
  pub base : IsFarAmongFresh n level i j places
  pub only : (x : ℕ) → x < n → Names (row_of rows x) level Uni j → x ≡ i
  pub passed : (distance n (accept_of places i level) j + 1 ≡ n) ⊎ HasPassed n level i j places

-- Class B: so it is, exactly one other input x asks for output j, and it does not ask for output j + 1.
pub record IsBeside (n level i j : ℕ) (places : Places) (rows : List Row) (x : ℕ) : Type 0 where
  pub base : IsFarAmongFresh n level i j places
  pub below : x < n
  pub other : x ≡ i → ⊥
  pub asks : Names (row_of rows x) level Uni j
  pub only : (y : ℕ) → y < n → Names (row_of rows y) level Uni j → (y ≡ i) ⊎ (y ≡ x)
  pub not_next : Names (row_of rows x) level Uni ((j + 1) % n) → ⊥

-- of either class
abbrev pub IsLower : ℕ → ℕ → ℕ → ℕ → Places → List Row → Type 0
IsLower n level i j places rows = IsAlone n level i j places rows ⊎ ((x : ℕ) × IsBeside n level i j places rows x)

decides_other : (x i : ℕ) → Decides (x ≡ i → ⊥)
decides_other x i = elim (cases_eq x i) [ inl same ↦ inr (λ other. other same) | inr other ↦ inl other ]

-- an input asks for the output beside these two, or none does
pub other_asks : (n level : ℕ) (rows : List Row) (j i x : ℕ)
    → ((y : ℕ) × (y < n) × ((y ≡ i → ⊥) × (y ≡ x → ⊥)) × Names (row_of rows y) level Uni j)
    ⊎ ((y : ℕ) → y < n → Names (row_of rows y) level Uni j → (y ≡ i) ⊎ (y ≡ x))
other_asks n level rows j i x =
    let Apart : ℕ → Type 0 = λ y. (y ≡ i → ⊥) × (y ≡ x → ⊥) in
    elim (some_below (λ y. Apart y × Names (row_of rows y) level Uni j)
    (λ y. both (Apart y) (Names (row_of rows y) level Uni j) (both (y ≡ i → ⊥) (y ≡ x → ⊥) (decides_other y i) (decides_other y x))
    (Names-decides (row_of rows y) level Uni j)) n) [
      | inl found ↦ inl (found.0, found.1, found.2.0, found.2.1)
      | inr none ↦ inr (λ y y_in asks. elim (cases_eq y i) [
        | inl same ↦ inl same
        | inr other ↦ elim (cases_eq y x) [ inl same ↦ inr same | inr also ↦ absurd (none (y, y_in, ((other, also), asks))) ]
      ])
    ]

-- no output is the one after it: an input that begins to ask for both begins to ask for two
pub apart_from_next : (n j : ℕ) → 2 < n → j < n → j ≡ (j + 1) % n → ⊥
apart_from_next n j more j_in same =
    let last = distance-last n j j_in in
    let here = distance-own n j j_in in
    let e : distance n j j ≡ distance n ((j + 1) % n) j = ap (λ p. distance n p j) same in
    omega (arith, last, here, e, more)

-- an input whose accept pointer leaves output j is fresh no more
fresh_at-lost : (n far place turns turns_later : ℕ) → far + 1 ≡ n → place < n → turns + 1 ≡ n → turns_later + 2 ≤ n
    → fresh_at n far place turns ≡ fresh_at n far place turns_later + 1
fresh_at-lost n far place turns turns_later e place_in full moved = omega arith

-- A slot of three ports or more whose rows name nothing at a better level and nothing as multicast of this one: how it begins,
-- and how its pointers move.
pub record IsOpening (n t level : ℕ) (rows : List Row) (first matched : List (Option Fed)) (before after : Places) : Type 0 where
  pub level_in : level < LEVELS
  pub begins : BeginsWith n t rows before first matched
  pub moved : AreMoved n t rows first matched before after
  pub pointing : ArePointing n level before
  pub clean : IsClean n level rows
  pub alone : IsWithoutMulticast n level rows
  pub more : 2 < n

module _ (n t level : ℕ) (rows : List Row) (first matched : List (Option Fed)) (before after : Places)
    (slot : IsOpening n t level rows first matched before after) where
  output_in : (x z : ℕ) → Serves first x z level Uni → z < n
  output_in x z served = let below = fed_of-lt first z (record { input = x; level = level; kind = Uni }) served in let size = slot.begins.opening.count in
      omega (arith, below, size)

  input_in : (x z : ℕ) → Serves first x z level Uni → x < n
  input_in x z served = elim ((slot.begins.opening.pairs x z level Uni).0 served) [
    | inl old ↦ absurd (nobody_at_first n x z level Uni old)
    | inr accepted ↦ accepted.taken.member.first.below
  ]

  -- an input is served by one output
  served_once : (x y z : ℕ) → Serves first x y level Uni → Serves first x z level Uni → y ≡ z
  served_once x y z one two =
      let here = slot.moved.accepted x y level one in
      let there = slot.moved.accepted x z level two in
      next-injective n y z (output_in x y one) (output_in x z two) (subst (λ p. p ≡ (z + 1) % n) here there)

  -- another input than i is matched in the first round, or none is
  other_matched : (i : ℕ) → ((x : ℕ) × (x < n) × (x ≡ i → ⊥) × (z : ℕ) × Serves first x z level Uni)
      ⊎ ((x z : ℕ) → (x ≡ i → ⊥) → Serves first x z level Uni → ⊥)
  other_matched i =
      let IsMet : ℕ → Type 0 = λ x. (z : ℕ) × (z < n) × Serves first x z level Uni in
      let met : (x : ℕ) → Decides (IsMet x) = λ x. some_below (λ z. Serves first x z level Uni) (λ z. Serves-decides first x z level Uni) n in
      let apart : (x : ℕ) → Decides ((x ≡ i → ⊥) × IsMet x) = λ x. elim (cases_eq x i) [
        | inl same ↦ inr (λ p. p.0 same)
        | inr other ↦ elim (met x) [ inl is ↦ inl (other, is) | inr none ↦ inr (λ p. none p.1) ]
      ] in
      elim (some_below (λ x. (x ≡ i → ⊥) × IsMet x) apart n) [
        | inl found ↦ inl (found.0, found.1, found.2.0, found.2.1.0, found.2.1.2)
        | inr none ↦ inr (λ x z other served. none (x, input_in x z served, (other, (z, output_in x z served, served))))
      ]

  -- where no other is matched and output k points one beyond input i, no other asks for k
  nobody_asks : (i k : ℕ) → i < n → k < n → distance n (grant_of before k level) i + 1 ≡ n → ((x z : ℕ) → (x ≡ i → ⊥) → Serves first x z level Uni → ⊥)
      → (x : ℕ) → x < n → Names (row_of rows x) level Uni k → x ≡ i
  nobody_asks i k i_in k_in last none x x_in named =
      elim (cases_eq x i) [
        | inl same ↦ same
        | inr other ↦
            let from_in = slot.pointing.grant k k_in in
            let nearest = IsFirstFrom-some n (grant_of before k level) (λ z. Names (row_of rows z) level Uni k)
            (λ z. Names-decides (row_of rows z) level Uni k) from_in x x_in named in
            let granted = grants_first n t rows before level slot.level_in slot.clean Uni
            (kind_is_first n t level rows first before slot.level_in slot.begins.opening slot.pointing slot.clean slot.alone) nearest.0 k k_in nearest.1 in
            let met = served_by_first n t level rows first before slot.level_in slot.begins.opening slot.pointing slot.clean slot.alone nearest.0 k
            nearest.1.below granted in
            let within = nearest.1.least x x_in named in
            let place_in = distance-lt n (grant_of before k level) x from_in in
            let differ : distance n (grant_of before k level) x ≡ distance n (grant_of before k level) i
            → ⊥ = λ e. other (distance-injective n (grant_of before k level) x i from_in x_in i_in e) in
            let not_own : nearest.0 ≡ i → ⊥ = λ same. let e : distance n (grant_of before k level) nearest.0 ≡ distance n (grant_of before k level) i =
            ap (distance n (grant_of before k level)) same in differ (omega (arith, e, within, place_in, last)) in
            absurd (none nearest.0 met.0 not_own met.2)
      ]

  module _ (i j : ℕ) (i_in : i < n) (j_in : j < n) (base : IsFarAmongFresh n level i j before) (nobody : (x : ℕ) → Serves first x j level Uni → ⊥) where
    turns_after : (x z : ℕ) → Serves first x z level Uni → distance n (accept_of after x level) j + 2 ≤ n
    turns_after x z served =
        let beyond = distance-beyond n z j (output_in x z served) j_in (λ same. nobody x (subst (λ y. Serves first x y level Uni) same served)) in
        subst (λ p. distance n p j + 2 ≤ n) (sym (slot.moved.accepted x z level served)) beyond

    own_lost : (x z : ℕ) → distance n (accept_of before x level) j + 1 ≡ n → Serves first x z level Uni
        → fresh_for n level before i j x ≡ fresh_for n level after i j x + 1
    own_lost x z full served =
        let stays = slot.moved.grant_stays j level nobody in
        let x_in = input_in x z served in
        let lost = fresh_at-lost n (distance n (grant_of before j level) i) (distance n (grant_of before j level) x) (distance n (accept_of before x level) j)
        (distance n (accept_of after x level) j) base.far (distance-lt n (grant_of before j level) x (slot.pointing.grant j j_in)) full
        (turns_after x z served) in
        subst (λ p. fresh_for n level before i j x ≡ fresh_at n (distance n p i) (distance n p x) (distance n (accept_of after x level) j) + 1) (sym stays) lost

    no_fresher : (x : ℕ) → x < n → fresh_for n level after i j x ≤ fresh_for n level before i j x
    no_fresher = no_fresher-refused n t level rows first matched slot.begins.opening.count before after slot.moved slot.pointing i j i_in j_in nobody

    pub fresh-le : fresh_of n level after i j ≤ fresh_of n level before i j
    fresh-le = sum_below-le (fresh_for n level after i j) (fresh_for n level before i j) n no_fresher

    pub one_lost : (x z : ℕ) → distance n (accept_of before x level) j + 1 ≡ n → Serves first x z level Uni
        → fresh_of n level after i j + 1 ≤ fresh_of n level before i j
    one_lost x z full served =
        let sums = sum_below-less (fresh_for n level after i j) (fresh_for n level before i j) n x (input_in x z served) no_fresher in
        let own = own_lost x z full served in
        omega (arith, sums, own)

    two_lost : (x z y w : ℕ) → (x ≡ y → ⊥) → distance n (accept_of before x level) j + 1 ≡ n → distance n (accept_of before y level) j + 1 ≡ n
        → Serves first x z level Uni → Serves first y w level Uni → fresh_of n level after i j + 2 ≤ fresh_of n level before i j
    two_lost x z y w apart full also served taken =
        let sums = sum_below-two (fresh_for n level after i j) (fresh_for n level before i j) n x y (input_in x z served)
        (input_in y w taken) apart no_fresher in
        let own = own_lost x z full served in
        let second = own_lost y w also taken in
        omega (arith, sums, own, second)

  -- What a slot that refuses input i's request makes of class A. Either the rank falls by two or more whatever is posted
  -- next; or no other input is matched, and the rows after it are of class A again where nobody begins to ask for j. Then
  -- either the rank falls by two or more where somebody does, or i alone asks for output j + 1.
  pub record Remains (i j : ℕ) : Type 0 where
    pub base : IsFarAmongFresh n level i j after
    pub passed : HasPassed n level i j after
    pub next : (fresh_of n level after i j + 2 ≤ min (distance n (accept_of before i level) j) (n - 2) + fresh_of n level before i j)
        ⊎ ((1 ≤ min (distance n (accept_of before i level) j) (n - 2)) × (fresh_of n level after i j ≤ fresh_of n level before i j)
        × ((x : ℕ) → x < n → Names (row_of rows x) level Uni ((j + 1) % n) → x ≡ i))

  pub record FallsByTwo (g i j : ℕ) : Type 0 where
    pub fewer : fresh_of n level after i j + 2 ≤ min (distance n (accept_of before g level) j) (n - 2) + fresh_of n level before i j
    pub nearer : min (distance n (accept_of after g level) j) (n - 2) + fresh_of n level after i j + 2 ≤ min (distance n (accept_of before g level) j)
        (n - 2) + fresh_of n level before i j

  module _ (i j : ℕ) (i_in : i < n) (j_in : j < n) (base : IsFarAmongFresh n level i j before) (nobody : (x : ℕ) → Serves first x j level Uni → ⊥) where
    -- the accept pointer of an input that refuses output j for output y comes nearer to j
    nearer_by : (g y : ℕ) → g < n → Serves first g y level Uni → distance n (accept_of before g level) y ≤ distance n (accept_of before g level) j
        → distance n (accept_of after g level) j + distance n (accept_of before g level) y + 1 ≡ distance n (accept_of before g level) j
    nearer_by g y g_in served at_most =
        let accept_in = slot.pointing.accept g g_in in
        let y_in = output_in g y served in
        let apart : distance n (accept_of before g level) y ≡ distance n (accept_of before g level) j
        → ⊥ = λ e. nobody g (subst (λ z. Serves first g z level Uni) (distance-injective n (accept_of before g level) y j accept_in y_in j_in e) served) in
        let passed = distance-passed n (accept_of before g level) y j accept_in y_in j_in (omega (arith, at_most, apart)) in
        subst (λ p. distance n p j + distance n (accept_of before g level) y + 1 ≡ distance n (accept_of before g level) j)
        (sym (slot.moved.accepted g y level served)) passed

    -- a fresh input that takes another output than j + 1 makes two steps or more
    pub two_steps : (g y : ℕ) → g < n → Serves first g y level Uni → distance n (accept_of before g level) y ≤ distance n (accept_of before g level) j
        → distance n (accept_of before g level) j + 1 ≡ n → (y ≡ (j + 1) % n → ⊥) → FallsByTwo g i j
    two_steps g y g_in served at_most full other =
        let accept_in = slot.pointing.accept g g_in in
        let y_in = output_in g y served in
        let next_in : (j + 1) % n < n = mod_below (j + 1) n (omega arith) in
        let closer = nearer_by g y g_in served at_most in
        let apart : distance n (accept_of before g level) y ≡ distance n (accept_of before g level) ((j + 1) % n)
        → ⊥ = λ e. other (distance-injective n (accept_of before g level) y ((j + 1) % n) accept_in y_in next_in e) in
        let lost = one_lost i j i_in j_in base nobody g y full served in
        let next_lt = distance-lt n (accept_of before g level) ((j + 1) % n) accept_in in
        let zero : distance n (accept_of before g level) ((j + 1) % n) ≡ 0 =
        elim (distance-next n (accept_of before g level) j accept_in j_in) [ inl beyond ↦ absurd (omega (arith, beyond, next_lt, full)) | inr at ↦ at.0 ] in
        record { fewer = omega (arith, lost, full, slot.more); nearer = omega (arith, lost, full, slot.more, closer, apart, zero) }

    -- the accept pointers of all others stay where none of them is matched
    others_stay : ((x z : ℕ) → (x ≡ i → ⊥) → Serves first x z level Uni → ⊥) → IsFarAmongFresh n level i j after
    others_stay none =
        record {
          far = subst (λ p. distance n p i + 1 ≡ n) (sym (slot.moved.grant_stays j level nobody)) base.far;
          fresh = λ x x_in other. subst (λ p. distance n p j + 1 ≡ n) (sym (slot.moved.accept_stays x level (λ z. none x z other))) (base.fresh x x_in other);
        }

    module _ (y : ℕ) (served : Serves first i y level Uni) (at_most : distance n (accept_of before i level) y ≤ distance n (accept_of before i level) j) where
      -- where i is fresh
      alone_fresh : distance n (accept_of before i level) j + 1 ≡ n → FallsByTwo i i j ⊎ Remains i j
      alone_fresh full =
          let closer = nearer_by i y i_in served at_most in
          let next_in : (j + 1) % n < n = mod_below (j + 1) n (omega arith) in
          elim (cases_eq y ((j + 1) % n)) [
            | inr other ↦ inl (two_steps i y i_in served at_most full other)
            | inl same ↦ elim (other_matched i) [
              | inl found ↦
                  let lost = two_lost i j i_in j_in base nobody i y found.0 found.3 (λ e. found.2 (sym e)) full
                  (base.fresh found.0 found.1 found.2) served found.4 in
                  inl (record { fewer = omega (arith, lost); nearer = omega (arith, lost, closer, full) })
              | inr none ↦
                  let lost = one_lost i j i_in j_in base nobody i y full served in
                  let taken : Serves first i ((j + 1) % n) level Uni = subst (λ z. Serves first i z level Uni) same served in
                  inr (record {
                    base = others_stay none;
                    passed = subst (λ p. distance n p i + 1 ≡ n) (sym (slot.moved.granted i ((j + 1) % n) level taken)) (distance-last n i i_in);
                    next = inl (omega (arith, lost, full, slot.more));
                  })
            ]
          ]

      -- where it is not, and output j + 1 points one beyond it
      alone_stale : (distance n (accept_of before i level) j + 1 ≡ n → ⊥) → HasPassed n level i j before → FallsByTwo i i j ⊎ Remains i j
      alone_stale stale passed =
          let accept_in = slot.pointing.accept i i_in in
          let closer = nearer_by i y i_in served at_most in
          let turns_in = distance-lt n (accept_of before i level) j accept_in in
          let next_in : (j + 1) % n < n = mod_below (j + 1) n (omega arith) in
          elim (other_matched i) [
            | inl found ↦
                let lost = one_lost i j i_in j_in base nobody found.0 found.3 (base.fresh found.0 found.1 found.2) found.4 in
                inl (record { fewer = omega (arith, lost, closer, slot.more); nearer = omega (arith, lost, closer, turns_in, stale) })
            | inr none ↦
                let least = fresh-le i j i_in j_in base nobody in
                let beyond : distance n (accept_of before i level) ((j + 1) % n) ≡ distance n (accept_of before i level) j + 1 =
                elim (distance-next n (accept_of before i level) j accept_in j_in) [ inl e ↦ e | inr at ↦ absurd (stale at.1) ] in
                let not_taken : (x : ℕ) → Serves first x ((j + 1) % n) level Uni → ⊥ = λ x taken. elim (cases_eq x i) [
                  | inr other ↦ none x ((j + 1) % n) other taken
                  | inl own ↦
                      let same : y ≡ (j + 1) % n = served_once i y ((j + 1) % n) served (subst (λ z. Serves first z ((j + 1) % n) level Uni) own taken) in
                      let e : distance n (accept_of before i level) y ≡ distance n (accept_of before i level) ((j + 1) % n) =
                      ap (distance n (accept_of before i level)) same in
                      omega (arith, e, beyond, at_most)
                ] in
                inr (record {
                  base = others_stay none;
                  passed = subst (λ p. distance n p i + 1 ≡ n) (sym (slot.moved.grant_stays ((j + 1) % n) level not_taken)) passed;
                  next = inr (omega (arith, closer, slot.more), least, nobody_asks i ((j + 1) % n) i_in next_in passed none);
                })
          ]

      pub alone_refused : (distance n (accept_of before i level) j + 1 ≡ n) ⊎ HasPassed n level i j before → FallsByTwo i i j ⊎ Remains i j
      alone_refused passed = elim (cases_eq (distance n (accept_of before i level) j + 1) n) [
        | inl full ↦ alone_fresh full
        | inr stale ↦ elim passed [ inl full ↦ absurd (stale full) | inr points ↦ alone_stale stale points ]
      ]
