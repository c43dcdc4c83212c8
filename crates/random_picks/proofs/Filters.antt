-- Filters of ranges.
use Rattle.std.proofs.Common.{◌≡◌, ◌≢◌, ◌∙◌, ◌+◌, ◌<◌, ◌≤◌, ℕ, zero, suc, Bool, true, false, List, [], ◌∷◌, Some, filter, slice_get, drop, refl, sym, ap, subst}
use Rattle.std.proofs.Common.{arith, inl, inr}
use Rattle.std.specs.List.{range_with_len}
use Rattle.std.proofs.lemmas.Bool.{cases_eq}
use Rattle.std.proofs.lemmas.List.Elements.{filter_passes}
use Rattle.std.proofs.lemmas.Option.{get_or_from_slice_get, slice_get_within}

module _ (p q : ℕ → Bool) where
  pub filter-agree : (from count : ℕ) → ((x : ℕ) → from ≤ x → x < from + count → p x ≡ q x)
      → filter p (range_with_len from count) ≡ filter q (range_with_len from count)
  filter-agree from zero same = refl
  filter-agree from (suc count) same =
      let rest = filter-agree (from + 1) count (λ x least most. same x (omega (arith, least)) (omega (arith, most))) in
      rw (same from (omega arith) (omega arith), rest) refl

module _ (p : ℕ → Bool) where
  pub filter-none : (from count : ℕ) → ((x : ℕ) → from ≤ x → x < from + count → p x ≡ false) → filter p (range_with_len from count) ≡ []
  filter-none from zero none = refl
  filter-none from (suc count) none =
      let rest = filter-none (from + 1) count (λ x least most. none x (omega (arith, least)) (omega (arith, most))) in
      rw (none from (omega arith) (omega arith)) rest

  -- a longer range, of which no more pass
  pub filter-past : (from count total : ℕ) → count ≤ total → ((x : ℕ) → from + count ≤ x → p x ≡ false)
      → filter p (range_with_len from total) ≡ filter p (range_with_len from count)
  filter-past from zero total some none = filter-none from total (λ x least most. none x (omega (arith, least)))
  filter-past from (suc count) zero some none = absurd (omega (arith, some))
  filter-past from (suc count) (suc total) some none =
      let rest = filter-past (from + 1) count total (omega (arith, some)) (λ x least. none x (omega (arith, least))) in
      rw rest refl

-- x is the first that passes, and those that pass q are the others
module _ (p q : ℕ → Bool) (x : ℕ) (yes : p x ≡ true) (left_out : q x ≡ false) (others : (y : ℕ) → y ≢ x → q y ≡ p y) (below : (y : ℕ) → y < x → p y ≡ false) where
  pub filter-first : (from count : ℕ) → from ≤ x → x < from + count → filter p (range_with_len from count) ≡ x ∷ filter q (range_with_len from count)
  filter-first from zero least most = absurd (omega (arith, least, most))
  filter-first from (suc count) least most = elim (cases_eq from x) [
    | inl same ↦
        let p_from : p from ≡ true = ap p same ∙ yes in
        let q_from : q from ≡ false = ap q same ∙ left_out in
        let rest = filter-agree p q (from + 1) count (λ y after most. sym (others y (λ e. omega (arith, after, e, same)))) in
        rw (p_from, q_from) (ap (λ (y : ℕ). y ∷ filter p (range_with_len (from + 1) count)) same ∙ ap (λ (ys : List ℕ). x ∷ ys) rest)
    | inr other ↦
        let p_from : p from ≡ false = below from (omega (arith, least, other)) in
        let q_from : q from ≡ false = others from other ∙ p_from in
        rw (p_from, q_from) (filter-first (from + 1) count (omega (arith, least, other)) (omega (arith, most)))
  ]

-- what a filter has passes
pub filtered-passes : (p : ℕ → Bool) (xs : List ℕ) (k x : ℕ) → slice_get (filter p xs) k ≡ Some x → p x ≡ true
filtered-passes p xs k x is =
    subst (λ (y : ℕ). p y ≡ true) (get_or_from_slice_get (filter p xs) k x x is) (filter_passes p xs k x (slice_get_within (filter p xs) k x is))

pub first-dropped : (k : ℕ) (xs : List ℕ) → slice_get (drop k xs) 0 ≡ slice_get xs k
first-dropped zero [] = refl
first-dropped zero (x ∷ xs) = refl
first-dropped (suc k) [] = refl
first-dropped (suc k) (x ∷ xs) = first-dropped k xs
