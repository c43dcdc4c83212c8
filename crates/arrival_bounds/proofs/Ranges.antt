-- Sums over slots in a row: of parts, of one slot, and of fewer slots.
use Rattle.std.proofs.Common.{◌≡◌, ◌∙◌, ℕ, zero, suc, ◌+◌, ◌<◌, ◌≤◌, ap, arith, inl, inr}
use Rattle.std.specs.Prelude.{sum_by}
use Rattle.std.specs.List.{range_with_len}
use Rattle.std.proofs.lemmas.Bool.{cases_eq}
use Rattle.std.proofs.lemmas.List.Sums.{sum_by-cons}

pub range_sum-parts : (f : ℕ → ℕ) (a n m : ℕ) → sum_by f (range_with_len a (n + m)) ≡ sum_by f (range_with_len a n) + sum_by f (range_with_len (a + n) m)
range_sum-parts f a zero m =
    let all : sum_by f (range_with_len a (0 + m)) ≡ sum_by f (range_with_len a m) = ap (λ k. sum_by f (range_with_len a k)) (none m) in
    let rest : sum_by f (range_with_len a m) ≡ sum_by f (range_with_len (a + 0) m) = ap (λ b. sum_by f (range_with_len b m)) (past a) in
    omega (arith, all, rest) where
      none : (x : ℕ) → 0 + x ≡ x
      none x = omega arith

      past : (x : ℕ) → x ≡ x + 0
      past x = omega arith
range_sum-parts f a (suc n) m =
    ap (λ k. sum_by f (range_with_len a k)) (next n m)
    ∙ sum_by-cons f a (range_with_len (a + 1) (n + m))
    ∙ add (f a) _ _ _ _ _ (range_sum-parts f (a + 1) n m)
    (sum_by-cons f a (range_with_len (a + 1) n)) (ap (λ b. sum_by f (range_with_len b m)) (start a n)) where
      next : (x y : ℕ) → suc x + y ≡ suc (x + y)
      next x y = omega arith

      start : (x y : ℕ) → x + 1 + y ≡ x + suc y
      start x y = omega arith

      add : (x s p q w r : ℕ) → s ≡ p + q → w ≡ x + p → q ≡ r → x + s ≡ w + r
      add x s p q w r one two three = omega arith

-- a term is at most the sum
pub range_sum-term : (a n : ℕ) (f : ℕ → ℕ) (h : ℕ) → a ≤ h → h < a + n → f h ≤ sum_by f (range_with_len a n)
range_sum-term a zero f h from below = absurd (omega arith)
range_sum-term a (suc n) f h from below =
    let whole = sum_by-cons f a (range_with_len (a + 1) n) in
    elim (cases_eq h a) [
      | inl is ↦ let here : f h ≡ f a = ap f is in omega arith
      | inr other ↦ let rest = range_sum-term (a + 1) n f h (omega arith) (omega arith) in omega arith
    ]

-- and so is the sum of fewer
pub range_sum-fewer : (f : ℕ → ℕ) (a n m : ℕ) → n ≤ m → sum_by f (range_with_len a n) ≤ sum_by f (range_with_len a m)
range_sum-fewer f a zero m few = omega arith
range_sum-fewer f a (suc n) zero few = absurd (omega arith)
range_sum-fewer f a (suc n) (suc m) few =
    let one = sum_by-cons f a (range_with_len (a + 1) n) in
    let other = sum_by-cons f a (range_with_len (a + 1) m) in
    let rest = range_sum-fewer f (a + 1) n m (omega arith) in
    omega arith
