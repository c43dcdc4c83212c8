-- What is found first: among the ports in order, from a pointer on, and among the ranks of a slot.
use Rattle.std.proofs.Common.{◌≡◌, ℕ, zero, suc, ◌+◌, ◌%◌, ◌<◌, ◌≤◌, ◌⊎◌, ◌∙◌, Bool, true, List, [], ◌∷◌, Option, None, Some, map, refl, sym, ap, subst}
use Rattle.std.proofs.Common.{inl, inr, arith}
use Rattle.std.specs.Bool.{Decides}
use Rattle.std.specs.List.{find, range_with_len}
use Rattle.std.specs.Option.{option_map}
use Rattle.std.proofs.lemmas.Bool.{cases_eq, cases_lt, cases_Bool, cond-true, cond-false}
use Rattle.std.proofs.lemmas.Nat.{mod_below}
use Rattle.std.proofs.lemmas.Option.{same_Some, none-some}
use Rattle.rotating_pick.specs.Rotation.{distance, IsFirstFrom}
use Rattle.rotating_pick.proofs.Circle.{distance-lt, place_at_distance, distance_of_place}
use Rattle.rotating_pick.proofs.First.{IsFirstFrom-only}
use Rattle.eslip_rounds.specs.Decisions.{ports, ports_from}

-- s is the least of the numbers from a below b with the test
pub record IsLeastFound (test : ℕ → Bool) (a b : ℕ) (found : Option ℕ) (s : ℕ) : Type 0 where
  pub low : a ≤ s
  pub high : s < b
  pub is : found ≡ Some s
  pub passes : test s ≡ true
  pub least : (r : ℕ) → a ≤ r → r < s → test r ≡ true → ⊥

-- none of the numbers from a below b has the test
pub record IsNoneFound (test : ℕ → Bool) (a b : ℕ) (found : Option ℕ) : Type 0 where
  pub is : found ≡ None
  pub fails : (r : ℕ) → a ≤ r → r < b → test r ≡ true → ⊥

module _ (test : ℕ → Bool) where
  find_range : (a n : ℕ) → ((s : ℕ) × IsLeastFound test a (a + n) (find test (range_with_len a n)) s)
      ⊎ IsNoneFound test a (a + n) (find test (range_with_len a n))
  find_range a zero = inr (record { is = refl; fails = λ r low high h. absurd (omega arith) })
  find_range a (suc n) =
      let rest : Option ℕ = find test (range_with_len (a + 1) n) in
      elim (cases_Bool (test a)) [
        | inl pass ↦ inl (
          a,
          record {
            low = omega arith;
            high = omega arith;
            is = cond-true (test a) (Some a) rest pass;
            passes = pass;
            least = λ r low high h. absurd (omega arith);
          },
        )
        | inr fail ↦
            let later : (b r : ℕ) → ((q : ℕ) → a + 1 ≤ q → q < b → test q ≡ true → ⊥) → a ≤ r → r < b → test r ≡ true
            → ⊥ = λ b r none low high h. elim (cases_eq r a) [
              | inl same ↦ let here : test a ≡ true = ap test (sym same) ∙ h in absurd (cc)
              | inr apart ↦ none r (omega arith) high h
            ] in
            elim (find_range (a + 1) n) [
              | inl f ↦
                  let low = f.1.low in
                  let high = f.1.high in
                  inl (
                    f.0,
                    record {
                      low = omega arith;
                      high = omega arith;
                      is = cond-false (test a) (Some a) rest fail ∙ f.1.is;
                      passes = f.1.passes;
                      least = λ r. later f.0 r f.1.least;
                    },
                  )
              | inr none ↦ inr (record {
                is = cond-false (test a) (Some a) rest fail ∙ none.is;
                fails = λ r low high. later ((a + 1) + n) r none.fails low (omega arith);
              })
            ]
      ]

  -- where one port alone has the test, it is found
  pub finds_port : (n x : ℕ) → x < n → test x ≡ true → ((y : ℕ) → test y ≡ true → y ≡ x) → find test (ports n) ≡ Some x
  finds_port n x x_in h only = elim (find_range 0 n) [
    | inl f ↦ f.1.is ∙ ap Some (only f.0 f.1.passes)
    | inr none ↦ absurd (none.fails x (omega arith) (omega arith) h)
  ]

  -- where no port has the test, none is found
  pub finds_no_port : (n : ℕ) → ((y : ℕ) → test y ≡ true → ⊥) → find test (ports n) ≡ None
  finds_no_port n nobody = elim (find_range 0 n) [ inl f ↦ absurd (nobody f.0 f.1.passes) | inr none ↦ none.is ]

find-map : (f : ℕ → ℕ) (test : ℕ → Bool) (xs : List ℕ) → find test (map f xs) ≡ option_map f (find (λ x. test (f x)) xs)
find-map f test [] = refl
find-map f test (x ∷ xs) = elim (cases_Bool (test (f x))) [
  | inl pass ↦ cond-true (test (f x)) (Some (f x)) (find test (map f xs)) pass
      ∙ ap (option_map f) (sym (cond-true (test (f x)) (Some x) (find (λ y. test (f y)) xs) pass))
  | inr fail ↦
      cond-false (test (f x)) (Some (f x)) (find test (map f xs)) fail
      ∙ (find-map f test xs ∙ ap (option_map f) (sym (cond-false (test (f x)) (Some x) (find (λ y. test (f y)) xs) fail)))
]

module _ (n from : ℕ) (test : ℕ → Bool) (P : ℕ → Type 0) (each : (k : ℕ) → Decides (test k) (P k)) (from_in : from < n) where
  first_or : ((x : ℕ) × (find test (ports_from n from) ≡ Some x) × IsFirstFrom n from P x)
      ⊎ ((find test (ports_from n from) ≡ None) × ((y : ℕ) → y < n → P y → ⊥))
  first_or =
      let place : ℕ → ℕ = λ steps. (steps + from) % n in
      let turned : ℕ → Bool = λ steps. test (place steps) in
      let along = find-map place test (ports n) in
      let at_distance : (z : ℕ) → z < n → P z → turned (distance n from z) ≡ true = λ z z_in p. ap test (place_at_distance n from z from_in z_in)
      ∙ (each z).1 p in
      elim (find_range turned 0 n) [
        | inl f ↦
            let d = f.0 in
            let d_in : d < n = let high = f.1.high in omega arith in
            inl (
              place d,
              along ∙ ap (option_map place) f.1.is,
              record {
                below = mod_below (d + from) n (omega arith);
                member = (each (place d)).0 f.1.passes;
                least = λ z z_in p. rw (distance_of_place n from d from_in d_in)
                    (elim (cases_lt (distance n from z) d) [
                      | inl nearer ↦ absurd
                          (f.1.least (distance n from z) (omega arith) nearer (at_distance z z_in p))
                      | inr far ↦ far
                    ]);
              },
            )
        | inr none ↦ inr (
          along ∙ ap (option_map place) none.is,
          λ y y_in p. none.fails (distance n from y) (omega arith) (let lt = distance-lt n from y from_in in omega arith) (at_distance y y_in p),
        )
      ]

  -- what is found from a pointer on is first
  pub first_found : (x : ℕ) → find test (ports_from n from) ≡ Some x → IsFirstFrom n from P x
  first_found x e = elim first_or [
    | inl f ↦ subst (IsFirstFrom n from P) (same_Some f.0 x (sym f.1 ∙ e)) f.2
    | inr none ↦ absurd (none-some x (sym none.0 ∙ e))
  ]

  -- and what is first is found
  pub finds_first : (x : ℕ) → IsFirstFrom n from P x → find test (ports_from n from) ≡ Some x
  finds_first x first = elim first_or [
    | inl f ↦ f.1 ∙ ap Some (IsFirstFrom-only n from P f.0 x from_in f.2 first)
    | inr none ↦ absurd (none.1 x first.below first.member)
  ]
