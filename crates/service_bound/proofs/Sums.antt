-- Sums of a number over all ports: where no port's number rises, neither does the sum.
use Rattle.std.proofs.Common.{ℕ, zero, suc, ◌≡◌, ◌+◌, ◌*◌, ◌<◌, ◌≤◌, ap, inl, inr, arith}
use Rattle.std.proofs.lemmas.Bool.{cases_eq}

-- the sum over the ports below m
abbrev pub sum_below : (ℕ → ℕ) → ℕ → ℕ
sum_below f zero = 0
sum_below f (suc m) = sum_below f m + f m

pub sum_below-le : (f g : ℕ → ℕ) (m : ℕ) → ((x : ℕ) → x < m → f x ≤ g x) → sum_below f m ≤ sum_below g m
sum_below-le f g zero all = omega arith
sum_below-le f g (suc m) all =
    let rest = sum_below-le f g m (λ x below. all x (omega arith)) in
    let last = all m (omega arith) in
    omega arith

-- where one port's number falls, the sum falls by as much or more
pub sum_below-less : (f g : ℕ → ℕ) (m h : ℕ) → h < m → ((x : ℕ) → x < m → f x ≤ g x) → sum_below f m + g h ≤ sum_below g m + f h
sum_below-less f g zero h h_in all = absurd (omega arith)
sum_below-less f g (suc m) h h_in all =
    let last = all m (omega arith) in
    elim (cases_eq h m) [
      | inl same ↦
          let rest = sum_below-le f g m (λ x below. all x (omega arith)) in
          let e : f h ≡ f m = ap f same in
          let d : g h ≡ g m = ap g same in
          omega arith
      | inr other ↦ let rest = sum_below-less f g m h (omega arith) (λ x below. all x (omega arith)) in omega arith
    ]

-- a sum of numbers that are at most `most`
pub sum_below-most : (f : ℕ → ℕ) (m most : ℕ) → ((x : ℕ) → x < m → f x ≤ most) → sum_below f m ≤ m * most
sum_below-most f zero most all = omega arith
sum_below-most f (suc m) most all =
    let rest = sum_below-most f m most (λ x below. all x (omega arith)) in
    let last = all m (omega arith) in
    omega arith

-- and where those of two ports fall
pub sum_below-two : (f g : ℕ → ℕ) (m h k : ℕ) → h < m → k < m → (h ≡ k → ⊥) → ((x : ℕ) → x < m → f x ≤ g x)
    → sum_below f m + g h + g k ≤ sum_below g m + f h + f k
sum_below-two f g zero h k h_in k_in apart all = absurd (omega arith)
sum_below-two f g (suc m) h k h_in k_in apart all =
    let last = all m (omega arith) in
    elim (cases_eq h m) [
      | inl same ↦
          let rest = sum_below-less f g m k (omega arith) (λ x below. all x (omega arith)) in
          let e : f h ≡ f m = ap f same in
          let d : g h ≡ g m = ap g same in
          omega arith
      | inr other ↦ elim (cases_eq k m) [
        | inl same ↦
            let rest = sum_below-less f g m h (omega arith) (λ x below. all x (omega arith)) in
            let e : f k ≡ f m = ap f same in
            let d : g k ≡ g m = ap g same in
            omega arith
        | inr also ↦ let rest = sum_below-two f g m h k (omega arith) (omega arith) apart (λ x below. all x (omega arith)) in omega arith
      ]
    ]
