-- What waits in each queue, where what has left it is so.
use Rattle.std.proofs.Common.{◌≡◌, ℕ, zero, suc, ◌+◌, ◌/◌, ◌%◌, ◌<◌, ◌↔◌, ◌∙◌, List, refl, ap, inl, inr, arith}
use Rattle.std.specs.List.{range_with_len, sum_by}
use Rattle.std_lemmas.proofs.Sums.{sum_by-plus}
use Rattle.eslip_rounds.specs.Schedules.{DecidedSlot}
use Rattle.scheduler_laws.specs.FedSlots.{came, gone, waiting}
use Rattle.scheduler_laws.specs.Growth.{cycle, period, one_in, growing}
use Rattle.scheduler_laws.proofs.Counting.{range_sum-more, second_comes, first_comes}
use Rattle.scheduler_laws.proofs.GrowingTurns.{period_some, input_at, output_at, pair_at, leaving, IsLeaving, leaves_pair}
use Rattle.scheduler_laws.proofs.OneSlot.{IsAsked}

-- how many cells have left the queue of input i and output j before slot t
abbrev pub has_left : ℕ → ℕ → ℕ → ℕ → ℕ
has_left n i j t = sum_by (leaving n i j) (range_with_len 0 t)

-- how many cells wait in slot t
abbrev pub waits : ℕ → ℕ → ℕ → ℕ → ℕ → ℕ
waits n m zero zero t = t / period n m + 1
waits n m (suc i) zero t = leaving n (suc i) zero t
waits n m zero (suc j) t = leaving n zero (suc j) t
waits n m (suc i) (suc j) t = 0

-- what has come to queue (0, 0) is what has left it, and what waits
came_first : (n m t : ℕ) → 1 < n → 0 < m → came (growing n m) 0 0 (t + 1) ≡ has_left n 0 0 t + (t / period n m + 1)
came_first n m t more some =
    let long : 1 < cycle n = omega arith in
    let whole = period_some n m more some in
    sum_by-plus (λ u. one_in 1 (u % cycle n)) (λ u. one_in 0 (u % period n m)) (range_with_len 0 (t + 1))
    ∙ ap (λ x. x + sum_by (λ u. one_in 0 (u % period n m)) (range_with_len 0 (t + 1))) (second_comes (cycle n) t long)
    ∙ ap (λ x. has_left n 0 0 t + x) (first_comes (period n m) t whole)

-- what leaves a queue up to a slot is what left it before, and what leaves it in the slot
pub left_next : (n i j t : ℕ) → has_left n i j (t + 1) ≡ has_left n i j t + leaving n i j t
left_next n i j t = range_sum-more (leaving n i j) 0 t ∙ ap (λ u. has_left n i j t + leaving n i j u) (let e : 0 + t ≡ t = omega arith in e)

module _ (n m t : ℕ) (slots : List DecidedSlot) (more : 1 < n) (some : 0 < m) where
  pub waiting_is : (i j : ℕ) → gone slots i j t ≡ has_left n i j t → waiting (growing n m) slots i j t ≡ waits n m i j t
  waiting_is zero zero left = let came_is = came_first n m t more some in omega arith
  waiting_is (suc i) zero left = let left_is = left_next n (suc i) zero t in omega arith
  waiting_is zero (suc j) left = let left_is = left_next n zero (suc j) t in omega arith
  waiting_is (suc i) (suc j) left = let left_is = left_next n (suc i) (suc j) t in omega arith

-- where a cell leaves a queue it is of the pair of the slot, and so is asked
leaves_asked : (n t a b i j : ℕ) → IsLeaving n t a b i j → ((i ≡ 0) × (j ≡ 0) → ⊥) → (0 < leaving n i j t) ↔ IsAsked a b i j
leaves_asked n t a b i j (inl it) other = (λ some. inr (it.0, it.1), λ asked. let one = it.2 in omega arith)
leaves_asked n t a b i j (inr off) other = (
  λ some. let none = off.1 in absurd (omega arith),
  λ asked. elim asked [ inl first ↦ absurd (other first) | inr it ↦ absurd (off.0 it) ],
)

asked_elsewhere : (n t i j : ℕ) → 1 < n → i < n → j < n → ((i ≡ 0) × (j ≡ 0) → ⊥)
    → (0 < leaving n i j t) ↔ IsAsked (input_at n (t % cycle n)) (output_at n (t % cycle n)) i j
asked_elsewhere n t i j more i_in j_in other =
    let a : ℕ = input_at n (t % cycle n) in
    let b : ℕ = output_at n (t % cycle n) in
    leaves_asked n t a b i j (leaves_pair n t a b i j i_in j_in (pair_at n (t % cycle n) (omega arith))) other

-- cells wait in queue (0, 0) and in that of the pair of the slot
pub waits_asked : (n m t i j : ℕ) → 1 < n → i < n → j < n
    → (0 < waits n m i j t) ↔ IsAsked (input_at n (t % cycle n)) (output_at n (t % cycle n)) i j
waits_asked n m t zero zero more i_in j_in = (λ some. inl (refl, refl), λ asked. omega arith)
waits_asked n m t (suc i) zero more i_in j_in = asked_elsewhere n t (suc i) zero more i_in j_in (λ first. let e = first.0 in omega arith)
waits_asked n m t zero (suc j) more i_in j_in = asked_elsewhere n t zero (suc j) more i_in j_in (λ first. let e = first.1 in omega arith)
waits_asked n m t (suc i) (suc j) more i_in j_in = asked_elsewhere n t (suc i) (suc j) more i_in j_in (λ first. let e = first.0 in omega arith)
