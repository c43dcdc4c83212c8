-- The cells that wait in a switch, and those that leave it: when they came.
use Rattle.std.proofs.Common.{◌≡◌, ◌∙◌, ◌+◌, ◌<◌, ap, refl, sym, subst, arith, ℕ, zero, suc, add-one, List, [], ◌∷◌, drop}
use Rattle.std.specs.Prelude.{All, Option, None, Some, IfSome, filter_map, option_map, option_to_list}
use Rattle.std.specs.List.{range_with_len}
use Rattle.std.proofs.lemmas.List.Elements.{All-append, All-cons, All-drop, All-head, All-nil, All-set, All-tail, All-weaker}
use Rattle.std.proofs.lemmas.List.FromFn.{get_or-range_with_len, length-range_with_len}
use Rattle.made_traffic.specs.Sources.{comes}
use Rattle.arrival_queues.specs.declared.cell.ArrivedCell.{ArrivedCell}
use Rattle.arrival_queues.specs.Queues.{Queues, head_of, queue_at, queues_without_head}
use Rattle.simulated_slots.specs.Jobs.{JobValue}
use Rattle.simulated_slots.specs.Slots.{all_left, cell_at, coming, departing, slot_of, switch_before}
use Rattle.simulated_slots.specs.ArrivalSteps.{AllCame}
use Rattle.simulated_slots.proofs.Serving.{head-came}
use Rattle.simulated_slots.proofs.TakingIn.{AllBefore, AllCame-at, AllCame-entered}
use Rattle.simulated_runs.proofs.MadeSlots.{after-is, departed-is, filled-is, left-is, served_in}
use Rattle.simulated_runs.proofs.Starting.{AllCame-first}

-- what is true of each of those that a list gives
module _ {X Y : Type 0} (f : X → Option Y) (Q : X → Type 0) (P : Y → Type 0) (each : (x : X) → Q x → IfSome (f x) P) where
  given-one : (x : X) (xs : List X) (o : Option Y) → f x ≡ o → IfSome o P → All P (filter_map f xs) → All P (filter_map f (x ∷ xs))
  given-one x xs None is none rest = rw is rest
  given-one x xs (Some y) is here rest = rw is (All-cons P y (filter_map f xs) here rest)

  pub All-given : (xs : List X) → All Q xs → All P (filter_map f xs)
  All-given [] all = All-nil P
  All-given (x ∷ xs) all = given-one x xs (f x) refl (each x (All-head Q x xs all)) (All-given xs (All-tail Q x xs all))

pub All-range : (n : ℕ) → All (λ i. i < n) (range_with_len 0 n)
All-range n k d inside =
    let within : k < n = omega (arith, inside, length-range_with_len 0 n) in
    omega (arith, get_or-range_with_len 0 n k d within, within)

-- the cells that come in a slot came in it
pub coming-now : (job : JobValue) (t : ℕ) → All (λ c. c.arrival ≡ t) (coming job t)
coming-now job t = All-given (cell_at job t) (λ i. i < job.traffic.ports) (λ c. c.arrival ≡ t) (λ i inside. one (comes job.traffic job.seed i t) i)
    (range_with_len 0 job.traffic.ports) (All-range job.traffic.ports)
  where
    one : (o : Option ℕ) (i : ℕ) → IfSome (option_map (λ j. record { arrival = t; input = i; output = j }) o) (λ (c : ArrivedCell). c.arrival ≡ t)
    one None i = tt
    one (Some j) i = refl

AllCame-without : (t : ℕ) (queues : Queues) (q : ℕ) → AllCame t queues → AllCame t (queues_without_head queues q)
unfolding queues_without_head
AllCame-without t queues q came = All-set (AllBefore t) queues.cells q (drop 1 (queue_at queues q))
    (All-drop (λ (c : ArrivedCell). c.arrival < t) 1 (queue_at queues q) (AllCame-at t queues q came)) came

AllCame-left : (t : ℕ) (queues : Queues) (qs : List ℕ) → AllCame t queues → AllCame t (all_left queues qs)
AllCame-left t queues [] came = came
AllCame-left t queues (q ∷ qs) came = AllCame-left t (queues_without_head queues q) qs (AllCame-without t queues q came)

AllCame-later : (t : ℕ) (queues : Queues) → AllCame t queues → AllCame (t + 1) queues
AllCame-later t queues came = λ q d inside k e within. let before = came q d inside k e within in omega (arith, before)

module _ (job : JobValue) where
  came-filled_after : (t : ℕ) → AllCame t (switch_before job t).queues → AllCame (t + 1) (slot_of job t).filled
  came-filled_after t came = subst (AllCame (t + 1)) (sym (filled-is job t))
      (AllCame-entered (t + 1) (switch_before job t).queues (coming job t) (AllCame-later t (switch_before job t).queues came)
      (All-weaker (λ (c : ArrivedCell). c.arrival ≡ t) (λ (c : ArrivedCell). c.arrival < t + 1) (λ c is. omega (arith, is)) (coming job t) (coming-now job t)))

  came-left_after : (t : ℕ) → AllCame t (switch_before job t).queues → AllCame (t + 1) (switch_before job (t + 1)).queues
  came-left_after t came = subst (AllCame (t + 1)) (sym (left-is job t) ∙ sym (ap (λ switch. switch.queues) (after-is job t)))
      (AllCame-left (t + 1) (slot_of job t).filled (served_in job t) (came-filled_after t came))

  -- all cells that wait before a slot came before it
  pub came-before : (t : ℕ) → AllCame t (switch_before job t).queues
  came-before zero = AllCame-first job
  came-before (suc t) = subst (λ (s : ℕ). AllCame s (switch_before job s).queues) (add-one t) (came-left_after t (came-before t))

  -- and those in the queues of a slot before the next one
  pub came-filled : (t : ℕ) → AllCame (t + 1) (slot_of job t).filled
  came-filled t = came-filled_after t (came-before t)

-- the cells that leave were in the queues
AllBefore-departing : (t : ℕ) (queues : Queues) (qs : List ℕ) → AllCame t queues → AllBefore t (departing queues qs)
AllBefore-departing t queues [] came = All-nil (λ (c : ArrivedCell). c.arrival < t)
AllBefore-departing t queues (q ∷ qs) came =
    All-append (λ (c : ArrivedCell). c.arrival < t) (option_to_list (head_of queues q)) (departing (queues_without_head queues q) qs)
    (one (head_of queues q) refl) (AllBefore-departing t (queues_without_head queues q) qs (AllCame-without t queues q came))
  where
    one : (o : Option ArrivedCell) → head_of queues q ≡ o → AllBefore t (option_to_list o)
    one None is = All-nil (λ (c : ArrivedCell). c.arrival < t)
    one (Some c) is = All-cons (λ (c : ArrivedCell). c.arrival < t) c [] (head-came t queues q c came is) (All-nil (λ (c : ArrivedCell). c.arrival < t))

pub came-departed : (job : JobValue) (t : ℕ) → AllBefore (t + 1) (slot_of job t).departed
came-departed job t = subst (AllBefore (t + 1)) (sym (departed-is job t))
    (AllBefore-departing (t + 1) (slot_of job t).filled (served_in job t) (came-filled job t))
