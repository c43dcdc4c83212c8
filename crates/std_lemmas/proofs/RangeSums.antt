-- Sums over ranges, by their terms.
use Rattle.std.proofs.Common.{◌*◌, ◌+◌, ◌<◌, ◌≡◌, ◌≢◌, ◌≤◌, arith, inl, inr, refl, suc, zero, ℕ}
use Rattle.std.proofs.lemmas.Bool.{cases_eq}
use Rattle.std.proofs.lemmas.List.Sums.{sum_by-cons}
use Rattle.std.specs.List.{range_with_len, sum_by}

-- functions that agree on the range have one sum
pub sum_by-range_same : (a n : ℕ) (f g : ℕ → ℕ) → ((i : ℕ) → a ≤ i → i < a + n → g i ≡ f i) → sum_by g (range_with_len a n) ≡ sum_by f (range_with_len a n)
sum_by-range_same a zero f g same = refl
sum_by-range_same a (suc n) f g same =
    let here : g a ≡ f a = same a (omega arith) (omega arith) in
    let rest = sum_by-range_same (a + 1) n f g (λ i from below. same i (omega arith) (omega arith)) in
    omega (arith, sum_by-cons f a (range_with_len (a + 1) n), sum_by-cons g a (range_with_len (a + 1) n))

-- where one of the terms is greater by one, so is the sum
pub sum_by-range_one : (a n : ℕ) (f g : ℕ → ℕ) (card : ℕ) → a ≤ card → card < a + n → g card ≡ f card + 1
    → ((i : ℕ) → a ≤ i → i < a + n → card ≢ i → g i ≡ f i) → sum_by g (range_with_len a n) ≡ sum_by f (range_with_len a n) + 1
sum_by-range_one a zero f g card from below more same = absurd (omega arith)
sum_by-range_one a (suc n) f g card from below more same =
    elim (cases_eq card a) [
      | inl is ↦
          let here : g a ≡ f a + 1 = rw (← is) more in
          let rest = sum_by-range_same (a + 1) n f g (λ i later inside. same i (omega arith) (omega arith) (λ e. omega arith)) in
          omega (arith, sum_by-cons f a (range_with_len (a + 1) n), sum_by-cons g a (range_with_len (a + 1) n))
      | inr other ↦
          let here : g a ≡ f a = same a (omega arith) (omega arith) other in
          let rest = sum_by-range_one (a + 1) n f g card (omega arith) (omega arith) more (λ i later inside. same i (omega arith) (omega arith)) in
          omega (arith, sum_by-cons f a (range_with_len (a + 1) n), sum_by-cons g a (range_with_len (a + 1) n))
    ]

-- a sum of n terms of at most m each
pub sum_by-range_le : (a n : ℕ) (f : ℕ → ℕ) (m : ℕ) → ((i : ℕ) → a ≤ i → i < a + n → f i ≤ m) → sum_by f (range_with_len a n) ≤ n * m
sum_by-range_le a zero f m small = omega arith
sum_by-range_le a (suc n) f m small =
    let here : f a ≤ m = small a (omega arith) (omega arith) in
    let rest = sum_by-range_le (a + 1) n f m (λ i from below. small i (omega arith) (omega arith)) in
    omega (arith, sum_by-cons f a (range_with_len (a + 1) n))
