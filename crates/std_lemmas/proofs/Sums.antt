-- Sums of sums: their order, terms that grow, and the terms of one place alone.
use Rattle.std.proofs.Common.{◌≡◌, ◌≢◌, ◌∙◌, ℕ, zero, suc, ◌+◌, ◌*◌, ◌/◌, ◌<◌, ◌≤◌, ◌==◌, List, [], ◌∷◌, refl, sym, ap, add-one, arith, inl, inr, if◌then◌else◌}
use Rattle.std.specs.Prelude.{count_ones}
use Rattle.std.specs.List.{range_with_len, sum_by}
use Rattle.std.specs.Int.{bit_at}
use Rattle.std.proofs.lemmas.Bool.{cases_eq, eq-eqb, ne_eqb}
use Rattle.std.proofs.lemmas.List.Sums.{sum_by-cons}
use Rattle.std.proofs.lemmas.Nat.Bits.{bit_at_lowest, bit_at-suc}
use Rattle.std.proofs.Math.Nat.{mul-add}
use lib.Count.{ones_step}

-- ---- any lists
pub sum_by-zero : {X : Type 0} (xs : List X) → sum_by (λ x. 0) xs ≡ 0
sum_by-zero [] = refl
sum_by-zero {X} (x ∷ xs) = let rest = sum_by-zero xs in let more = sum_by-cons {X = X} (λ y. 0) x xs in omega arith

pub sum_by-plus : {X : Type 0} (f g : X → ℕ) (xs : List X) → sum_by (λ x. f x + g x) xs ≡ sum_by f xs + sum_by g xs
sum_by-plus f g [] = refl
sum_by-plus f g (x ∷ xs) =
    let rest = sum_by-plus f g xs in
    omega (arith, sum_by-cons f x xs, sum_by-cons g x xs, sum_by-cons (λ y. f y + g y) x xs)

pub sum_by-same : {X : Type 0} (f g : X → ℕ) (xs : List X) → ((x : X) → f x ≡ g x) → sum_by f xs ≡ sum_by g xs
sum_by-same f g xs same = ap (λ h. sum_by h xs) (λ i x. same x i)

pub sum_by-none : {X : Type 0} (f : X → ℕ) (xs : List X) → ((x : X) → f x ≡ 0) → sum_by f xs ≡ 0
sum_by-none f xs none = sum_by-same f (λ x. 0) xs none ∙ sum_by-zero xs

pub sum_by-times : {X : Type 0} (x : ℕ) (f : X → ℕ) (xs : List X) → sum_by (λ y. x * f y) xs ≡ x * sum_by f xs
sum_by-times x f [] = omega arith
sum_by-times x f (y ∷ ys) =
    sum_by-cons (λ z. x * f z) y ys
    ∙ ap (λ n. x * f y + n) (sum_by-times x f ys)
    ∙ sym (mul-add x (f y) (sum_by f ys))
    ∙ ap (λ n. x * n) (sym (sum_by-cons f y ys))

-- sums of sums, in either order
pub sum_by-turn : {X Y : Type 0} (f : X → Y → ℕ) (xs : List X) (ys : List Y) → sum_by (λ x. sum_by (f x) ys) xs ≡ sum_by (λ y. sum_by (λ x. f x y) xs) ys
sum_by-turn f [] ys = sym (sum_by-zero ys)
sum_by-turn f (x ∷ xs) ys =
    sum_by-cons (λ z. sum_by (f z) ys) x xs
    ∙ ap (λ n. sum_by (f x) ys + n) (sum_by-turn f xs ys)
    ∙ sym (sum_by-plus (f x) (λ y. sum_by (λ z. f z y) xs) ys)
    ∙ sum_by-same (λ y. f x y + sum_by (λ z. f z y) xs) (λ y. sum_by (λ z. f z y) (x ∷ xs)) ys (λ y. sym (sum_by-cons (λ z. f z y) x xs))

-- ---- ranges
-- a sum of greater terms
pub range_sum-le : (a n : ℕ) (f g : ℕ → ℕ) → ((i : ℕ) → a ≤ i → i < a + n → f i ≤ g i) → sum_by f (range_with_len a n) ≤ sum_by g (range_with_len a n)
range_sum-le a zero f g le = omega arith
range_sum-le a (suc n) f g le =
    let here : f a ≤ g a = le a (omega arith) (omega arith) in
    let rest = range_sum-le (a + 1) n f g (λ i from below. le i (omega arith) (omega arith)) in
    omega (arith, sum_by-cons f a (range_with_len (a + 1) n), sum_by-cons g a (range_with_len (a + 1) n))

-- and of one that is greater by one at least
pub range_sum-less : (a n : ℕ) (f g : ℕ → ℕ) (h : ℕ) → a ≤ h → h < a + n → f h + 1 ≤ g h → ((i : ℕ) → a ≤ i → i < a + n → f i ≤ g i)
    → sum_by f (range_with_len a n) + 1 ≤ sum_by g (range_with_len a n)
range_sum-less a zero f g h from below less le = absurd (omega arith)
range_sum-less a (suc n) f g h from below less le =
    let f' = sum_by-cons f a (range_with_len (a + 1) n) in
    let g' = sum_by-cons g a (range_with_len (a + 1) n) in
    elim (cases_eq h a) [
      | inl is ↦
          let here : f a + 1 ≤ g a = rw (← is) less in
          let rest = range_sum-le (a + 1) n f g (λ i later inside. le i (omega arith) (omega arith)) in
          omega arith
      | inr other ↦
          let here : f a ≤ g a = le a (omega arith) (omega arith) in
          let rest = range_sum-less (a + 1) n f g h (omega arith) (omega arith) less (λ i later inside. le i (omega arith) (omega arith)) in
          omega arith
    ]

-- of terms that are some only at one place
module _ (f : ℕ → ℕ) (c : ℕ) (others : (i : ℕ) → i ≢ c → f i ≡ 0) where
  range_sum-past : (a n : ℕ) → c < a → sum_by f (range_with_len a n) ≡ 0
  range_sum-past a zero past = refl
  range_sum-past a (suc n) past =
      let here : f a ≡ 0 = others a (λ e. omega arith) in
      let rest = range_sum-past (a + 1) n (omega arith) in
      omega (arith, sum_by-cons f a (range_with_len (a + 1) n), here, rest)

  pub range_sum-at : (a n : ℕ) → a ≤ c → c < a + n → sum_by f (range_with_len a n) ≡ f c
  range_sum-at a zero from below = absurd (omega arith)
  range_sum-at a (suc n) from below = elim (cases_eq a c) [
    | inl now ↦
        let rest = range_sum-past (a + 1) n (omega arith) in
        let here : f a ≡ f c = ap f now in
        omega (arith, sum_by-cons f a (range_with_len (a + 1) n), here, rest)
    | inr differ ↦
        let here = others a differ in
        let rest = range_sum-at (a + 1) n (omega (arith, differ)) (omega arith) in
        omega (arith, sum_by-cons f a (range_with_len (a + 1) n), here, rest)
  ]

  pub range_sum-most : (a n : ℕ) → sum_by f (range_with_len a n) ≤ f c
  range_sum-most a zero = omega arith
  range_sum-most a (suc n) = elim (cases_eq a c) [
    | inl now ↦
        let rest = range_sum-past (a + 1) n (omega arith) in
        let here : f a ≡ f c = ap f now in
        omega (arith, sum_by-cons f a (range_with_len (a + 1) n), here, rest)
    | inr differ ↦
        let here = others a differ in
        let rest = range_sum-most (a + 1) n in
        omega (arith, sum_by-cons f a (range_with_len (a + 1) n), here, rest)
  ]

pub range_sum-one : (a n m x : ℕ) → sum_by (λ l. if l == m then x else 0) (range_with_len a n) ≤ x
range_sum-one a n m x =
    let here : (if m == m then x else 0) ≡ x = rw (eq-eqb m m refl) refl in
    let most = range_sum-most (λ l. if l == m then x else 0) m (λ l other. rw (ne_eqb l m other) refl) a n in
    omega (arith, here, most)

-- one place on
pub range_sum-shift : (a n : ℕ) (f : ℕ → ℕ) → sum_by f (range_with_len (a + 1) n) ≡ sum_by (λ i. f (i + 1)) (range_with_len a n)
range_sum-shift a zero f = refl
range_sum-shift a (suc n) f =
    let rest = range_sum-shift (a + 1) n f in
    omega (arith, sum_by-cons f (a + 1) (range_with_len (a + 1 + 1) n), sum_by-cons (λ i. f (i + 1)) a (range_with_len (a + 1) n))

-- the members below n are no more than all
pub bits-few : (n fan : ℕ) → sum_by (bit_at fan) (range_with_len 0 n) ≤ count_ones fan
bits-few zero fan = omega arith
bits-few (suc n) fan =
    let next = λ (i : ℕ). ap (bit_at fan) (add-one i) ∙ bit_at-suc fan i in
    let rest = range_sum-shift 0 n (bit_at fan) ∙ sum_by-same (λ i. bit_at fan (i + 1)) (bit_at (fan / 2)) (range_with_len 0 n) next in
    let few = bits-few n (fan / 2) in
    omega (arith, sum_by-cons (bit_at fan) 0 (range_with_len 1 n), bit_at_lowest fan, ones_step fan)
