-- Fresh inputs: how many there are for a request, and that no slot makes one more.
use Rattle.std.proofs.Common.{◌≡◌, ℕ, ◌+◌, ◌-◌, ◌*◌, ◌%◌, ◌<◌, ◌≤◌, ◌⊎◌, min, List, Option, length, refl, ap, subst, inl, inr, arith}
use Rattle.std.proofs.lemmas.Bool.{cases_eq, cases_lt}
use Rattle.rotating_pick.specs.Rotation.{distance}
use Rattle.rotating_pick.specs.declared.kinds.Kind.TheVariants.{Uni}
use Rattle.rotating_pick.proofs.Circle.{distance-lt}
use Rattle.rotating_pick.proofs.Picking.{distance-injective}
use Rattle.slot_match.specs.declared.rows.Row.{Row}
use Rattle.slot_match.specs.declared.matching.Fed.{Fed}
use Rattle.slot_match.specs.Matches.{Serves}
use Rattle.slot_match.proofs.Pairs.{Serves-once, Serves-decides, fed_of-lt}
use Rattle.pointer_state.specs.Places.{Places, ArePointing, grant_of, accept_of}
use Rattle.eslip_rounds.specs.Slots.{AreMoved}
use Rattle.eslip_rounds.proofs.Deciding.{some_below}
use Rattle.service_bound.proofs.Sums.{sum_below, sum_below-le, sum_below-less, sum_below-most}
use Rattle.service_bound.proofs.Distances.{distance-passed, distance-after, distance-beyond}
use Rattle.service_bound.proofs.Rank.{fresh_at, fresh_at-le}

-- whether input x is fresh for the request of input i for output j: 1 or 0
abbrev pub fresh_for : ℕ → ℕ → Places → ℕ → ℕ → ℕ → ℕ
fresh_for n level places i j x =
    fresh_at n (distance n (grant_of places j level) i) (distance n (grant_of places j level) x) (distance n (accept_of places x level) j)

-- how many inputs are fresh
abbrev pub fresh_of : ℕ → ℕ → Places → ℕ → ℕ → ℕ
fresh_of n level places i j = sum_below (fresh_for n level places i j) n

-- there are n at most, and none of one port
pub fresh_of-most : (n level : ℕ) (places : Places) (i j : ℕ) → ArePointing n level places → j < n → fresh_of n level places i j ≤ n * min (n - 1) 1
fresh_of-most n level places i j pointing j_in =
    sum_below-most (fresh_for n level places i j) n (min (n - 1) 1)
    (λ x x_in. let turns_in = distance-lt n (accept_of places x level) j (pointing.accept x x_in) in omega arith)

module _ (n t level : ℕ) (rows : List Row) (first matched : List (Option Fed)) (size : length first ≡ n) (before after : Places)
    (moved : AreMoved n t rows first matched before after) (pointing : ArePointing n level before) where
  -- an accept pointer stays or goes one beyond some output, which is another than j but where j is served
  pub accept_later : (x j : ℕ) → x < n → j < n → Serves first x j level Uni ⊎ (distance n (accept_of after x level) j + 2 ≤ n)
      ⊎ (distance n (accept_of after x level) j ≡ distance n (accept_of before x level) j)
  accept_later x j x_in j_in = elim (some_below (λ y. Serves first x y level Uni) (λ y. Serves-decides first x y level Uni) n) [
    | inl met ↦ elim (cases_eq met.0 j) [
      | inl same ↦ inl (subst (λ y. Serves first x y level Uni) same met.2)
      | inr other ↦ inr (inl (rw (moved.accepted x met.0 level met.2) (distance-beyond n met.0 j met.1 j_in other)))
    ]
    | inr none ↦
        let nobody = λ (y : ℕ) (s : Serves first x y level Uni). let below = fed_of-lt first y (record { input = x; level = level; kind = Uni }) s in
        none (y, omega arith, s) in
        inr (inr (rw (moved.accept_stays x level nobody) refl))
  ]

  module _ (i j : ℕ) (i_in : i < n) (j_in : j < n) where
    -- no input becomes fresh where the output is not accepted
    pub no_fresher-refused : ((x : ℕ) → Serves first x j level Uni → ⊥) → (x : ℕ) → x < n → fresh_for n level after i j x ≤ fresh_for n level before i j x
    no_fresher-refused nobody x x_in =
        let stays = moved.grant_stays j level nobody in
        let turns_in = distance-lt n (accept_of before x level) j (pointing.accept x x_in) in
        rw stays (fresh_at-le n (distance n (grant_of before j level) i) (distance n (grant_of before j level) x) (distance n (accept_of before x level) j)
        (distance n (grant_of before j level) i) (distance n (grant_of before j level) x) (distance n (accept_of after x level) j) turns_in
        (λ within. (within, elim (accept_later x j x_in j_in) [ inl served ↦ absurd (nobody x served) | inr later ↦ later ])))

    -- nor where input h accepted it, which is before i from its pointer on: then h comes after i
    no_fresher-accepted : (h : ℕ) → h < n → Serves first h j level Uni → distance n (grant_of before j level) h < distance n (grant_of before j level) i
        → (x : ℕ) → x < n → fresh_for n level after i j x ≤ fresh_for n level before i j x
    no_fresher-accepted h h_in served nearer x x_in =
        let place = moved.granted h j level served in
        let from_in = pointing.grant j j_in in
        let far_in = distance-lt n (grant_of before j level) i from_in in
        let turns_in = distance-lt n (accept_of before x level) j (pointing.accept x x_in) in
        let passed = distance-passed n (grant_of before j level) h i from_in h_in i_in nearer in
        rw place (fresh_at-le n (distance n (grant_of before j level) i) (distance n (grant_of before j level) x) (distance n (accept_of before x level) j)
        (distance n ((h + 1) % n) i) (distance n ((h + 1) % n) x) (distance n (accept_of after x level) j) turns_in
        (λ within. elim (cases_lt (distance n (grant_of before j level) h) (distance n (grant_of before j level) x)) [
          | inr not_before ↦ let end = distance-after n (grant_of before j level) h x from_in h_in x_in not_before in absurd (omega arith)
          | inl ahead ↦
              let also = distance-passed n (grant_of before j level) h x from_in h_in x_in ahead in (
                omega arith,
                elim (accept_later x j x_in j_in) [
                  | inr later ↦ later
                  | inl taken ↦ let same : x ≡ h = (Serves-once first j x h level level Uni Uni taken served).0 in let e =
                      ap (distance n (grant_of before j level)) same in absurd (omega arith)
                ],
              )
        ]))

    pub fresh-accepted : (h : ℕ) → h < n → Serves first h j level Uni → distance n (grant_of before j level) h < distance n (grant_of before j level) i
        → fresh_of n level after i j ≤ fresh_of n level before i j
    fresh-accepted h h_in served nearer = sum_below-le (fresh_for n level after i j) (fresh_for n level before i j) n (no_fresher-accepted h h_in served nearer)

    -- the input that refuses the output for another, y: its accept pointer comes nearer, or it is fresh no more
    pub stale-refused : ((x : ℕ) → Serves first x j level Uni → ⊥) → (h y : ℕ) → h < n → y < n → Serves first h y level Uni → (y ≡ j → ⊥)
        → distance n (accept_of before h level) y ≤ distance n (accept_of before h level) j
        → distance n (grant_of before j level) h ≤ distance n (grant_of before j level) i
        → min (distance n (accept_of after h level) j) (n - 2) + fresh_of n level after i j + 1 ≤ min (distance n (accept_of before h level) j)
        (n - 2) + fresh_of n level before i j
    stale-refused nobody h y h_in y_in served other at_most ahead =
        let stays = moved.grant_stays j level nobody in
        let accept_in = pointing.accept h h_in in
        let apart : distance n (accept_of before h level) y ≡ distance n (accept_of before h level) j
        → ⊥ = λ e. other (distance-injective n (accept_of before h level) y j accept_in y_in j_in e) in
        let nearer = distance-passed n (accept_of before h level) y j accept_in y_in j_in (omega arith) in
        let place = moved.accepted h y level served in
        let closer : distance n (accept_of after h level) j < distance n (accept_of before h level) j = rw place (omega arith) in
        let turns_in : distance n (accept_of before h level) j < n = distance-lt n (accept_of before h level) j accept_in in
        let others = sum_below-less (fresh_for n level after i j) (fresh_for n level before i j) n h h_in (no_fresher-refused nobody) in
        let own : fresh_for n level after i j h ≡ fresh_at n (distance n (grant_of before j level) i) (distance n (grant_of before j level) h)
        (distance n (accept_of after h level) j) = rw stays refl in
        let less : fresh_of n level after i j + fresh_for n level before i j h ≤ fresh_of n level before i j +
        fresh_at n (distance n (grant_of before j level) i) (distance n (grant_of before j level) h) (distance n (accept_of after h level) j) =
        subst (λ v. fresh_of n level after i j + fresh_for n level before i j h ≤ fresh_of n level before i j + v) own others in
        omega arith
