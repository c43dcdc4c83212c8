-- The deepest queue of a run: no queue is longer, and it is no longer than a number that no queue exceeds.
use Rattle.std.proofs.Common.{◌≡◌, ◌⊎◌, ℕ, zero, suc, ◌+◌, ◌<◌, ◌≤◌, List, [], ◌∷◌, ◌++◌, map, max, Option, sym, ap, subst, arith, inl, inr}
use Rattle.std.specs.List.{flat_map, fold, range_with_len}
use Rattle.std.proofs.lemmas.Bool.{cases_eq}
use Rattle.std.proofs.Math.Nat.{le-max_left, le-max_right, max-le}
use Rattle.rotating_pick.specs.declared.limits.TheConstants.{LEVELS}
use Rattle.slot_match.specs.declared.matching.Served.{Served}
use Rattle.card_core.specs.Plans.{Plan, Queue, OfOutput, OfLevel}
use Rattle.eslip_rounds.specs.Schedulers.{Scheduler}
use Rattle.queue_lengths.specs.Lengths.{IsQueue, queues_of, greatest, length_in, peak_of, deepest_of}
use Rattle.switch_plan.specs.GoodPlans.{SwitchPlan}
use Rattle.run_laws.specs.Runs.{ports_of, card_at, parts_under}
use Rattle.queue_measures.specs.Sizing.{deepest_under}

-- ---- the greatest of numbers
greatest_most : (f : ℕ → ℕ) (n k : ℕ) → k < n → f k ≤ greatest f n
greatest_most f zero k below = absurd (omega arith)
greatest_most f (suc n) k below =
    let left = le-max_left (greatest f n) (f n) in
    let right = le-max_right (greatest f n) (f n) in
    elim (cases_eq k n) [
      | inl same ↦ subst (λ u. f u ≤ max (greatest f n) (f n)) (sym same) right
      | inr other ↦ let earlier = greatest_most f n k (omega arith) in omega (arith, earlier, left)
    ]

greatest_least : (f : ℕ → ℕ) (most n : ℕ) → ((k : ℕ) → k < n → f k ≤ most) → greatest f n ≤ most
greatest_least f most zero few = omega arith
greatest_least f most (suc n) few = max-le (greatest_least f most n (λ k below. few k (omega arith))) (few n (omega arith))

-- ---- the greatest over a list of queues
abbrev IsIn : Queue → List Queue → Type 0
IsIn q [] = ⊥
IsIn q (r ∷ queues) = (q ≡ r) ⊎ IsIn q queues

module _ (f : Queue → ℕ) where
  abbrev most_from : ℕ → List Queue → ℕ
  most_from most queues = fold (λ most q. max most (f q)) most queues

  most_grows : (most : ℕ) (queues : List Queue) → most ≤ most_from most queues
  most_grows most [] = omega arith
  most_grows most (q ∷ queues) = let more = most_grows (max most (f q)) queues in let left = le-max_left most (f q) in omega (arith, more, left)

  most_of : (most : ℕ) (queues : List Queue) (q : Queue) → IsIn q queues → f q ≤ most_from most queues
  most_of most [] q member = absurd member
  most_of most (r ∷ queues) q member = elim member [
    | inl same ↦
        let more = most_grows (max most (f r)) queues in
        let right = le-max_right most (f r) in
        let is : f q ≡ f r = ap f same in
        omega (arith, more, right, is)
    | inr later ↦ most_of (max most (f r)) queues q later
  ]

  most_few : (bound most : ℕ) (queues : List Queue) → most ≤ bound → ((q : Queue) → f q ≤ bound) → most_from most queues ≤ bound
  most_few bound most [] few all = few
  most_few bound most (q ∷ queues) few all = most_few bound (max most (f q)) queues (max-le few (all q)) all

-- ---- the queues of a switch are all in their list
IsIn-left : (q : Queue) (xs ys : List Queue) → IsIn q xs → IsIn q (xs ++ ys)
IsIn-left q [] ys member = absurd member
IsIn-left q (x ∷ xs) ys member = elim member [ inl here ↦ inl here | inr later ↦ inr (IsIn-left q xs ys later) ]

IsIn-right : (q : Queue) (xs ys : List Queue) → IsIn q ys → IsIn q (xs ++ ys)
IsIn-right q [] ys member = member
IsIn-right q (x ∷ xs) ys member = inr (IsIn-right q xs ys member)

IsIn-range : (f : ℕ → Queue) (a n k : ℕ) → a ≤ k → k < a + n → IsIn (f k) (map f (range_with_len a n))
IsIn-range f a zero k from below = absurd (omega arith)
IsIn-range f a (suc n) k from below = elim (cases_eq k a) [
  | inl here ↦ inl (ap f here)
  | inr later ↦ inr (IsIn-range f (a + 1) n k (omega arith) (omega arith))
]

IsIn-ranges : (f : ℕ → List Queue) (q : Queue) (a n k : ℕ) → a ≤ k → k < a + n → IsIn q (f k) → IsIn q (flat_map f (range_with_len a n))
IsIn-ranges f q a zero k from below member = absurd (omega arith)
IsIn-ranges f q a (suc n) k from below member = elim (cases_eq k a) [
  | inl here ↦ IsIn-left q (f a) (flat_map f (range_with_len (a + 1) n)) (subst (λ u. IsIn q (f u)) here member)
  | inr later ↦ IsIn-right q (f a) (flat_map f (range_with_len (a + 1) n)) (IsIn-ranges f q (a + 1) n k (omega arith) (omega arith) member)
]

abbrev of_output : ℕ → List Queue
of_output j = map (OfOutput j) (range_with_len 0 LEVELS)

IsIn-queues : (ports : ℕ) (q : Queue) → IsQueue ports q → IsIn q (queues_of ports)
IsIn-queues ports (OfOutput j level) is =
    IsIn-left (OfOutput j level) (flat_map of_output (range_with_len 0 ports)) (map OfLevel (range_with_len 0 LEVELS))
    (IsIn-ranges of_output (OfOutput j level) 0 ports j (omega arith) (omega (arith, is.0))
    (IsIn-range (OfOutput j) 0 LEVELS level (omega arith) (omega (arith, is.1))))
IsIn-queues ports (OfLevel level) is =
    IsIn-right (OfLevel level) (flat_map of_output (range_with_len 0 ports)) (map OfLevel (range_with_len 0 LEVELS))
    (IsIn-range OfLevel 0 LEVELS level (omega arith) (omega (arith, is)))

-- ---- of a card
module _ (plan : Plan) (served : List (Option Served)) (slots : ℕ) where
  length_most : (q : Queue) (t : ℕ) → IsQueue plan.ports q → t < slots → length_in plan q served t ≤ deepest_of plan served slots
  length_most q t is below =
      let peak = greatest_most (length_in plan q served) slots t below in
      let deep = most_of (λ r. peak_of plan r served slots) 0 (queues_of plan.ports) q (IsIn-queues plan.ports q is) in
      omega (arith, peak, deep)

  deepest_few : (most : ℕ) → ((q : Queue) (t : ℕ) → t < slots → length_in plan q served t ≤ most) → deepest_of plan served slots ≤ most
  deepest_few most few =
      most_few (λ r. peak_of plan r served slots) most 0 (queues_of plan.ports) (omega arith)
      (λ q. greatest_least (length_in plan q served) most slots (λ t below. few q t below))

-- ---- of a run
module _ (scheduler : Scheduler) (plan : SwitchPlan) (slots : ℕ) where
  pub length_within : (i : ℕ) (q : Queue) (t : ℕ) → i < ports_of plan → IsQueue (card_at plan i).ports q → t < slots
      → length_in (card_at plan i) q (parts_under scheduler plan i slots) t ≤ deepest_under scheduler plan slots
  length_within i q t inside is below =
      let here = length_most (card_at plan i) (parts_under scheduler plan i slots) slots q t is below in
      let all = greatest_most (λ k. deepest_of (card_at plan k) (parts_under scheduler plan k slots) slots) (ports_of plan) i inside in
      omega (arith, here, all)

  pub deepest_within : (most : ℕ)
      → ((i : ℕ) (q : Queue) (t : ℕ) → i < ports_of plan → t < slots → length_in (card_at plan i) q (parts_under scheduler plan i slots) t ≤ most)
      → deepest_under scheduler plan slots ≤ most
  deepest_within most few =
      greatest_least (λ k. deepest_of (card_at plan k) (parts_under scheduler plan k slots) slots) most (ports_of plan)
      (λ i inside. deepest_few (card_at plan i) (parts_under scheduler plan i slots) slots most (λ q t below. few i q t inside below))
