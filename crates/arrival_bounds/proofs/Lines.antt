-- Sums over the queues of a line, and slots in a row that each take a cell.
use Rattle.std.proofs.Common.{◌≡◌, ℕ, zero, suc, ◌+◌, ◌<◌, ◌≤◌, ◌⊎◌, arith, subst, inl, inr}
use Rattle.std.specs.Prelude.{sum_by}
use Rattle.std.specs.List.{range_with_len}
use Rattle.std.proofs.lemmas.Bool.{cases_lt}
use Rattle.std.proofs.lemmas.List.Sums.{sum_by-cons}
use Rattle.std_lemmas.proofs.Sums.{range_sum-le, range_sum-less}
use Rattle.arrival_bounds.specs.Counts.{Counts, of_input}

-- some queue of a line has more
pub record HasMore (n levels : ℕ) (f g : Counts) (i t u : ℕ) : Type 0 where
  pub output : ℕ
  pub level : ℕ
  pub output_in : output < n
  pub level_in : level < levels
  pub more : f i output level t < g i output level u

module _ (n levels : ℕ) where
  -- a line with more of each queue has more
  pub line-le : (f g : Counts) (i t u : ℕ) → ((j l : ℕ) → j < n → l < levels → f i j l t ≤ g i j l u) → of_input n levels f i t ≤ of_input n levels g i u
  line-le f g i t u le = range_sum-le 0 n (λ j. sum_by (λ l. f i j l t) (range_with_len 0 levels)) (λ j. sum_by (λ l. g i j l u) (range_with_len 0 levels))
      (λ j from inside. range_sum-le 0 levels (λ l. f i j l t) (λ l. g i j l u) (λ l above below. le j l (omega arith) (omega arith)))

  -- and more by one where one queue has
  pub line-less : (f g : Counts) (i t u : ℕ) → HasMore n levels f g i t u → ((y m : ℕ) → y < n → m < levels → f i y m t ≤ g i y m u)
      → of_input n levels f i t + 1 ≤ of_input n levels g i u
  line-less f g i t u one le =
      let j = one.output in
      let l = one.level in
      let j_in = one.output_in in
      let l_in = one.level_in in
      let more = one.more in
      range_sum-less 0 n (λ y. sum_by (λ m. f i y m t) (range_with_len 0 levels)) (λ y. sum_by (λ m. g i y m u) (range_with_len 0 levels)) j (omega arith)
      (omega arith)
      (range_sum-less 0 levels (λ m. f i j m t) (λ m. g i j m u) l (omega arith) (omega arith) (omega arith)
      (λ m above below. le j m (omega arith) (omega arith)))
      (λ y from inside. range_sum-le 0 levels (λ m. f i y m t) (λ m. g i y m u) (λ m above below. le y m (omega arith) (omega arith)))

-- of two sums the greater has a greater term
some_less : (a n : ℕ) (f g : ℕ → ℕ) → sum_by f (range_with_len a n) < sum_by g (range_with_len a n) → (j : ℕ) × (j < a + n) × (f j < g j)
some_less a zero f g less = absurd (omega arith)
some_less a (suc n) f g less = elim (cases_lt (f a) (g a)) [
  | inl here ↦ (a, omega arith, here)
  | inr other ↦
      let f' = sum_by-cons f a (range_with_len (a + 1) n) in
      let g' = sum_by-cons g a (range_with_len (a + 1) n) in
      let later = some_less (a + 1) n f g (omega arith) in
      (later.0, omega arith, later.2)
]

pub queue_less : (n levels : ℕ) (f g : Counts) (i t u : ℕ) → of_input n levels f i t < of_input n levels g i u → HasMore n levels f g i t u
queue_less n levels f g i t u less =
    let output = some_less 0 n (λ j. sum_by (λ l. f i j l t) (range_with_len 0 levels)) (λ j. sum_by (λ l. g i j l u) (range_with_len 0 levels)) less in
    let level = some_less 0 levels (λ l. f i output.0 l t) (λ l. g i output.0 l u) output.2 in
    record { output = output.0; level = level.0; output_in = omega (arith, output.1); level_in = omega (arith, level.1); more = level.2 }

-- two counts of which each slot raises one
none_more : (x y : ℕ) → x + y + 0 ≤ x + y
none_more x y = omega arith

pub climb : (a b : ℕ → ℕ) → ((t : ℕ) → a t ≤ a (t + 1)) → ((t : ℕ) → b t ≤ b (t + 1)) → (first count : ℕ)
    → ((t : ℕ) → first ≤ t → t < first + count → (a t < a (t + 1)) ⊎ (b t < b (t + 1))) → a first + b first + count ≤ a (first + count) + b (first + count)
climb a b a_rises b_rises first zero each = subst (λ v. a first + b first + 0 ≤ a v + b v) (past first) (none_more (a first) (b first)) where
  past : (t : ℕ) → t ≡ t + 0
  past t = omega arith
climb a b a_rises b_rises first (suc count) each =
    let t = first + count in
    let before = climb a b a_rises b_rises first count (λ u from below. each u from (later u first count below)) in
    let a_up = a_rises t in
    let b_up = b_rises t in
    subst (λ v. a first + b first + suc count ≤ a v + b v) (next first count)
    (elim (each t (at first count) (last first count)) [ inl one ↦ omega arith | inr one ↦ omega arith ]) where
      next : (x y : ℕ) → x + y + 1 ≡ x + suc y
      next x y = omega arith

      later : (u x y : ℕ) → u < x + y → u < x + suc y
      later u x y below = omega arith

      at : (x y : ℕ) → x ≤ x + y
      at x y = omega arith

      last : (x y : ℕ) → x + y < x + suc y
      last x y = omega arith
