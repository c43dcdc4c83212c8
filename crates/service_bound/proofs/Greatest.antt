-- The greatest of some numbers, where there is one for each of the numbers below n.
use Rattle.std.proofs.Common.{◌≡◌, ℕ, zero, suc, ◌+◌, ◌<◌, ◌≤◌, ◌++◌, ◌∙◌, max, List, [], ◌∷◌, map, refl, ap, inl, inr, arith}
use Rattle.std.specs.List.{flat_map, range_with_len}
use Rattle.std.proofs.lemmas.Bool.{cases_lt}
use Rattle.service_bound.specs.Waits.{greatest}

pub greatest-append : (xs ys : List ℕ) → greatest (xs ++ ys) ≡ max (greatest xs) (greatest ys)
greatest-append [] ys = omega arith
greatest-append (x ∷ xs) ys = let tail = greatest-append xs ys in omega arith

-- all together have the greatest of the greatest
pub greatest-flat_map : (f : ℕ → List ℕ) (xs : List ℕ) → greatest (flat_map f xs) ≡ greatest (map (λ x. greatest (f x)) xs)
greatest-flat_map f [] = refl
greatest-flat_map f (x ∷ xs) = greatest-append (f x) (flat_map f xs) ∙ ap (max (greatest (f x))) (greatest-flat_map f xs)

greatest-within_from : (f : ℕ → ℕ) (a n x : ℕ) → ((k : ℕ) → a ≤ k → k < a + n → f k ≤ x) → greatest (map f (range_with_len a n)) ≤ x
greatest-within_from f a zero x all = omega arith
greatest-within_from f a (suc n) x all =
    let head : f a ≤ x = all a (omega arith) (omega arith) in
    let tail = greatest-within_from f (a + 1) n x (λ k above below. all k (omega arith) (omega arith)) in
    omega arith

greatest-has_from : (f : ℕ → ℕ) (a n k : ℕ) → a ≤ k → k < a + n → f k ≤ greatest (map f (range_with_len a n))
greatest-has_from f a zero k above below = absurd (omega arith)
greatest-has_from f a (suc n) k above below =
    elim (cases_lt a k) [
      | inl later ↦ let tail = greatest-has_from f (a + 1) n k (omega arith) (omega arith) in omega arith
      | inr here ↦ let same : f k ≡ f a = ap f (omega arith) in omega arith
    ]

-- the greatest is within each bound of all
pub greatest-within : (f : ℕ → ℕ) (n x : ℕ) → ((k : ℕ) → k < n → f k ≤ x) → greatest (map f (range_with_len 0 n)) ≤ x
greatest-within f n x all = greatest-within_from f 0 n x (λ k above below. all k (omega arith))

-- and each is within it
pub greatest-has : (f : ℕ → ℕ) (n k : ℕ) → k < n → f k ≤ greatest (map f (range_with_len 0 n))
greatest-has f n k below = greatest-has_from f 0 n k (omega arith) (omega arith)

pub greatest-same : (f g : ℕ → ℕ) (n : ℕ) → ((k : ℕ) → k < n → f k ≡ g k) → greatest (map f (range_with_len 0 n)) ≡ greatest (map g (range_with_len 0 n))
greatest-same f g n same =
    let up = greatest-within f n (greatest (map g (range_with_len 0 n)))
    (λ k below. let has = greatest-has g n k below in let e = same k below in omega arith) in
    let down = greatest-within g n (greatest (map f (range_with_len 0 n)))
    (λ k below. let has = greatest-has f n k below in let e = same k below in omega arith) in
    omega arith

-- the greatest of the pairs' greater is the greater of the greatest
pub greatest-max : (f g h : ℕ → ℕ) (n : ℕ) → ((k : ℕ) → k < n → h k ≡ max (f k) (g k))
    → max (greatest (map f (range_with_len 0 n))) (greatest (map g (range_with_len 0 n))) ≡ greatest (map h (range_with_len 0 n))
greatest-max f g h n is =
    let fs = greatest-within f n (greatest (map h (range_with_len 0 n))) (λ k below. let has = greatest-has h n k below in let e = is k below in omega arith) in
    let gs = greatest-within g n (greatest (map h (range_with_len 0 n))) (λ k below. let has = greatest-has h n k below in let e = is k below in omega arith) in
    let hs = greatest-within h n (max (greatest (map f (range_with_len 0 n))) (greatest (map g (range_with_len 0 n))))
    (λ k below. let hf = greatest-has f n k below in let hg = greatest-has g n k below in let e = is k below in omega arith) in
    omega arith

-- what is 0 from n on adds nothing
pub greatest-beyond : (f : ℕ → ℕ) (n m : ℕ) → n ≤ m → ((k : ℕ) → n ≤ k → f k ≡ 0)
    → greatest (map f (range_with_len 0 m)) ≡ greatest (map f (range_with_len 0 n))
greatest-beyond f n m more none =
    let up = greatest-within f m (greatest (map f (range_with_len 0 n))) (λ k below. elim (cases_lt k n) [
      | inl inside ↦ greatest-has f n k inside
      | inr outside ↦ let e = none k outside in omega arith
    ]) in
    let down = greatest-within f n (greatest (map f (range_with_len 0 m))) (λ k below. greatest-has f m k (omega arith)) in
    omega arith

-- one more at the end
pub greatest-more : (f : ℕ → ℕ) (n : ℕ) → greatest (map f (range_with_len 0 (n + 1))) ≡ max (greatest (map f (range_with_len 0 n))) (f n)
greatest-more f n =
    let here = greatest-has f (n + 1) n (omega arith) in
    let up = greatest-within f (n + 1) (max (greatest (map f (range_with_len 0 n))) (f n)) (λ k below. elim (cases_lt k n) [
      | inl before ↦ let has = greatest-has f n k before in omega arith
      | inr last ↦ let same : f k ≡ f n = ap f (omega arith) in omega arith
    ]) in
    let down = greatest-within f n (greatest (map f (range_with_len 0 (n + 1)))) (λ k below. greatest-has f (n + 1) k (omega arith)) in
    omega arith
