-- What enters the queues of a run is no more than what arrives.
use Rattle.std.proofs.Common.{◌≡◌, ◌∙◌, ℕ, zero, suc, ◌+◌, ◌<◌, ◌≤◌, ◌==◌, ◌&&◌, Bool, true, false, length, Option, None, Some, slice_index_or}
use Rattle.std.proofs.Common.{refl, sym, ap, subst, arith, add-one, if◌then◌else◌, length-append, inl, inr}
use Rattle.std.specs.Prelude.{sum_by}
use Rattle.std.specs.List.{range_with_len}
use Rattle.std.proofs.lemmas.Bool.{cases_lt}
use Rattle.std.proofs.lemmas.List.Elements.{filter-append}
use Rattle.std.proofs.lemmas.List.Sums.{sum_by-cons}
use Rattle.std_lemmas.proofs.Sums.{sum_by-zero, sum_by-same, sum_by-plus, sum_by-none, range_sum-le, range_sum-one}
use Rattle.rotating_pick.specs.declared.limits.TheConstants.{LEVELS}
use Rattle.slot_histories.specs.Tests.{has}
use Rattle.slot_histories.proofs.SetTests.{Decides-has}
use Rattle.multicast_queue.specs.FanQueues.{FanCell}
use Rattle.eslip_rounds.specs.Schedulers.{Scheduler}
use Rattle.card_core.specs.declared.plan.Planned.{Planned}
use Rattle.card_core.specs.Plans.{Plan, Queue, OfOutput, OfLevel, is_queue, queue_of, size_of, arriving}
use Rattle.card_core.specs.Queues.{Passed, waiting, before, queue_in, coming, fits, is_routed}
use Rattle.card_core.specs.Grants.{to_output}
use Rattle.card_core.proofs.Admitting.{entered_stays}
use Rattle.card_core.proofs.CellCounts.{packet_goes}
use Rattle.card_core.proofs.Passing.{arriving-there}
use Rattle.switch_plan.specs.GoodPlans.{SwitchPlan}
use Rattle.run_laws.specs.Runs.{ports_of, card_at, parts_under}
use Rattle.run_laws.proofs.Base.{before-same}
use Rattle.arrival_bounds.specs.Counts.{Counts, of_input, for_output}
use Rattle.arrival_bounds.specs.Waits.{came_under}
use Rattle.arrival_bounds.specs.Arrivals.{IsInUse, cells_of, cells_to, cells_for, arriving_at, arriving_for, arriving_in}

-- ---- one packet enters one queue
one_level : (r : Queue) (j x : ℕ) → sum_by (λ l. if is_queue (OfOutput j l) r then x else 0) (range_with_len 0 LEVELS) ≤ x
one_level (OfOutput a b) j x = by_port (j == a) where
  by_port : (p : Bool) → sum_by (λ l. if p && (l == b) then x else 0) (range_with_len 0 LEVELS) ≤ x
  by_port true = range_sum-one 0 LEVELS b x
  by_port false = let none = sum_by-zero (range_with_len 0 LEVELS) in omega (arith, none)
one_level (OfLevel m) j x = let none = sum_by-zero (range_with_len 0 LEVELS) in omega (arith, none)

one_queue : (r : Queue) (n x : ℕ) → sum_by (λ j. sum_by (λ l. if is_queue (OfOutput j l) r then x else 0) (range_with_len 0 LEVELS)) (range_with_len 0 n) ≤ x
one_queue (OfOutput a b) n x =
    let one = range_sum-one 0 n a x in
    let few = range_sum-le 0 n (λ j. sum_by (λ l. if (j == a) && (l == b) then x else 0) (range_with_len 0 LEVELS)) (λ j. if j == a then x else 0)
    (λ j from inside. by_port (j == a)) in
    omega (arith, one, few) where
      by_port : (p : Bool) → sum_by (λ l. if p && (l == b) then x else 0) (range_with_len 0 LEVELS) ≤ (if p then x else 0)
      by_port true = range_sum-one 0 LEVELS b x
      by_port false = let none = sum_by-zero (range_with_len 0 LEVELS) in omega (arith, none)
one_queue (OfLevel m) n x =
    let none = sum_by-none (λ j. sum_by (λ l. let y : ℕ = 0 in y) (range_with_len 0 LEVELS)) (range_with_len 0 n)
    (λ j. sum_by-zero (range_with_len 0 LEVELS)) in
    omega (arith, none)

fewer : (a b c d : Bool) (x : ℕ) → (if (a && b && c) && d then x else 0) ≤ (if b then (if a then x else 0) else 0)
fewer true true true true x = omega arith
fewer true true true false x = omega arith
fewer true true false d x = omega arith
fewer true false c d x = omega arith
fewer false b c d x = omega arith

fewer_to : (a b c d : Bool) (x : ℕ) → (if (a && b && c) && d then x else 0) ≤ (if b then (if a && d then x else 0) else 0)
fewer_to true true true true x = omega arith
fewer_to true true true false x = omega arith
fewer_to true true false d x = omega arith
fewer_to true false c d x = omega arith
fewer_to false b c d x = omega arith

fewer_for : (a b c d : Bool) (x : ℕ) → (if (a && b && c) && d then x else 0) ≤ (if a && b then x else 0)
fewer_for true true true true x = omega arith
fewer_for true true true false x = omega arith
fewer_for true true false d x = omega arith
fewer_for true false c d x = omega arith
fewer_for false b c d x = omega arith

-- the cells that enter a queue
abbrev enter : Plan → ℕ → ℕ → Passed → Option (ℕ × Planned) → ℕ
enter card j l s o = length (to_output j (coming card (OfOutput j l) s o))

enter-is : (card : Plan) (j l k : ℕ) (s : Passed) (p : Planned)
    → enter card j l s (Some (k, p)) ≡ (if (is_routed p && is_queue (OfOutput j l) (queue_of p) && fits card s p) && has p.fan j then size_of p else 0)
enter-is card j l k s p = packet_goes j k (size_of p) p.fan (is_routed p && is_queue (OfOutput j l) (queue_of p) && fits card s p)

enter_row : (card : Plan) (s : ℕ → ℕ → Passed) (n : ℕ) (o : Option (ℕ × Planned))
    → sum_by (λ j. sum_by (λ l. enter card j l (s j l) o) (range_with_len 0 LEVELS)) (range_with_len 0 n) ≤ cells_of o
enter_row card s n None =
    let none = sum_by-none (λ j. sum_by (λ l. let y : ℕ = 0 in y) (range_with_len 0 LEVELS)) (range_with_len 0 n)
    (λ j. sum_by-zero (range_with_len 0 LEVELS)) in
    omega (arith, none)
enter_row card s n (Some (k, p)) =
    let x = if is_routed p then size_of p else 0 in
    let few = range_sum-le 0 n (λ j. sum_by (λ l. enter card j l (s j l) (Some (k, p))) (range_with_len 0 LEVELS))
    (λ j. sum_by (λ l. if is_queue (OfOutput j l) (queue_of p) then x else 0) (range_with_len 0 LEVELS))
    (λ j from inside. range_sum-le 0 LEVELS (λ l. enter card j l (s j l) (Some (k, p))) (λ l. if is_queue (OfOutput j l) (queue_of p) then x else 0)
    (λ l above below. subst (λ e. e ≤ (if is_queue (OfOutput j l) (queue_of p) then x else 0)) (sym (enter-is card j l k (s j l) p))
    (fewer (is_routed p) (is_queue (OfOutput j l) (queue_of p)) (fits card (s j l) p) (has p.fan j) (size_of p)))) in
    let one = one_queue (queue_of p) n x in
    omega (arith, few, one)

enter_column : (card : Plan) (s : ℕ → Passed) (j : ℕ) (o : Option (ℕ × Planned))
    → sum_by (λ l. enter card j l (s l) o) (range_with_len 0 LEVELS) ≤ cells_to j o
enter_column card s j None = let none = sum_by-zero (range_with_len 0 LEVELS) in omega (arith, none)
enter_column card s j (Some (k, p)) =
    let x = if is_routed p && has p.fan j then size_of p else 0 in
    let few = range_sum-le 0 LEVELS (λ l. enter card j l (s l) (Some (k, p))) (λ l. if is_queue (OfOutput j l) (queue_of p) then x else 0)
    (λ l above below. subst (λ e. e ≤ (if is_queue (OfOutput j l) (queue_of p) then x else 0)) (sym (enter-is card j l k (s l) p))
    (fewer_to (is_routed p) (is_queue (OfOutput j l) (queue_of p)) (fits card (s l) p) (has p.fan j) (size_of p))) in
    let one = one_level (queue_of p) j x in
    omega (arith, few, one)

enter_few : (card : Plan) (s : Passed) (j l : ℕ) (o : Option (ℕ × Planned)) → enter card j l s o ≤ cells_for (OfOutput j l) o
enter_few card s j l None = omega arith
enter_few card s j l (Some (k, p)) =
    subst (λ e. e ≤ cells_for (OfOutput j l) (Some (k, p))) (sym (enter-is card j l k s p))
    (fewer_for (is_routed p) (is_queue (OfOutput j l) (queue_of p)) (fits card s p) (has p.fan j) (size_of p))

-- where some enter, the packet goes to the queue's output
enter_goes : (card : Plan) (s : Passed) (j l k : ℕ) (p : Planned) → 0 < enter card j l s (Some (k, p)) → has p.fan j ≡ true
enter_goes card s j l k p some =
    by_tests (is_routed p && is_queue (OfOutput j l) (queue_of p) && fits card s p) (has p.fan j) (size_of p)
    (subst (λ e. 0 < e) (enter-is card j l k s p) some) where
      by_tests : (a b : Bool) (x : ℕ) → 0 < (if a && b then x else 0) → b ≡ true
      by_tests a true x some = refl
      by_tests true false x some = absurd (omega arith)
      by_tests false false x some = absurd (omega arith)

-- ---- of two tables
pub lines-plus : (a b : ℕ → ℕ → ℕ) (n m : ℕ) → sum_by (λ j. sum_by (λ l. a j l + b j l) (range_with_len 0 m)) (range_with_len 0 n)
    ≡ sum_by (λ j. sum_by (a j) (range_with_len 0 m)) (range_with_len 0 n) + sum_by (λ j. sum_by (b j) (range_with_len 0 m)) (range_with_len 0 n)
lines-plus a b n m =
    sum_by-same (λ j. sum_by (λ l. a j l + b j l) (range_with_len 0 m)) (λ j. sum_by (a j) (range_with_len 0 m) + sum_by (b j) (range_with_len 0 m))
    (range_with_len 0 n)
    (λ j. sum_by-plus (a j) (b j) (range_with_len 0 m))
    ∙ sum_by-plus (λ j. sum_by (a j) (range_with_len 0 m)) (λ j. sum_by (b j) (range_with_len 0 m)) (range_with_len 0 n)

lines-same : (a b : ℕ → ℕ → ℕ) (n m : ℕ) → ((j l : ℕ) → a j l ≡ b j l)
    → sum_by (λ j. sum_by (a j) (range_with_len 0 m)) (range_with_len 0 n) ≡ sum_by (λ j. sum_by (b j) (range_with_len 0 m)) (range_with_len 0 n)
lines-same a b n m same =
    sum_by-same (λ j. sum_by (a j) (range_with_len 0 m)) (λ j. sum_by (b j) (range_with_len 0 m)) (range_with_len 0 n)
    (λ j. sum_by-same (a j) (b j) (range_with_len 0 m) (same j))

-- ---- slot by slot
module _ (scheduler : Scheduler) (plan : SwitchPlan) where
  abbrev came : Counts
  came = came_under scheduler plan

  abbrev old : (i j l t : ℕ) → Passed
  old i j l t = before (card_at plan i) (OfOutput j l) (parts_under scheduler plan i (suc t)) t

  abbrev fresh : (i j l t : ℕ) → ℕ
  fresh i j l t = enter (card_at plan i) j l (old i j l t) (arriving (card_at plan i) t)

  pub came-more : (i j l t : ℕ) → came i j l (suc t) ≡ came i j l t + fresh i j l t
  came-more i j l t =
      let card = card_at plan i in
      let q = OfOutput j l in
      let parts = parts_under scheduler plan i (suc t) in
      let s = queue_in card q parts t in
      let comes = coming card q (old i j l t) (arriving card t) in
      ap (λ cells. length (to_output j cells)) (entered_stays q s (slice_index_or parts t None) (waiting s))
      ∙ ap length (filter-append (λ (cell : FanCell). has cell.fan j) (old i j l t).entered comes)
      ∙ length-append (to_output j (old i j l t).entered) (to_output j comes)
      ∙ ap (λ b. length (to_output j b.entered) + fresh i j l t) (before-same scheduler plan i t (suc t) (omega arith) q)

  -- none enters where no packet arrives
  pub came-still : (i j l t : ℕ) → arriving (card_at plan i) t ≡ None → came i j l (suc t) ≡ came i j l t
  came-still i j l t none =
      let more = came-more i j l t in
      let fresh_none : fresh i j l t ≡ 0 = ap (enter (card_at plan i) j l (old i j l t)) none in
      omega arith

  -- a queue that a cell entered is in use
  pub in_use : (i j l t : ℕ) → 0 < came i j l t → IsInUse plan i j
  in_use i j l zero some = absurd (omega arith)
  in_use i j l (suc t) some = elim (cases_lt 0 (came i j l t)) [
    | inl before ↦ in_use i j l t before
    | inr none ↦ let more = came-more i j l t in now (arriving (card_at plan i) t) refl (omega arith)
  ] where
    now : (o : Option (ℕ × Planned)) → arriving (card_at plan i) t ≡ o → 0 < enter (card_at plan i) j l (old i j l t) o → IsInUse plan i j
    now None is enters = absurd (omega arith)
    now (Some (k, p)) is enters =
        let found = arriving-there 0 (card_at plan i).packets t k p is in
        record { number = found.0; packet = p; found = found.2; goes = (Decides-has p.fan j).0 (enter_goes (card_at plan i) (old i j l t) j l k p enters) }

  queue_more : (i j l t : ℕ) → came i j l (suc t) ≤ came i j l t + arriving_in plan i j l t
  queue_more i j l t =
      let more = came-more i j l t in
      let few = enter_few (card_at plan i) (old i j l t) j l (arriving (card_at plan i) t) in
      omega arith

  input_more : (i t : ℕ) → of_input (ports_of plan) LEVELS came i (suc t) ≤ of_input (ports_of plan) LEVELS came i t + arriving_at plan i t
  input_more i t =
      let same = lines-same (λ j l. came i j l (suc t)) (λ j l. came i j l t + fresh i j l t) (ports_of plan) LEVELS (λ j l. came-more i j l t) in
      let plus = lines-plus (λ j l. came i j l t) (λ j l. fresh i j l t) (ports_of plan) LEVELS in
      let few = enter_row (card_at plan i) (λ j l. old i j l t) (ports_of plan) (arriving (card_at plan i) t) in
      omega (arith, same, plus, few)

  output_more : (j t : ℕ) → for_output (ports_of plan) LEVELS came j (suc t) ≤ for_output (ports_of plan) LEVELS came j t + arriving_for plan j t
  output_more j t =
      let same = lines-same (λ i l. came i j l (suc t)) (λ i l. came i j l t + fresh i j l t) (ports_of plan) LEVELS (λ i l. came-more i j l t) in
      let plus = lines-plus (λ i l. came i j l t) (λ i l. fresh i j l t) (ports_of plan) LEVELS in
      let few = range_sum-le 0 (ports_of plan) (λ i. sum_by (λ l. fresh i j l t) (range_with_len 0 LEVELS)) (λ i. cells_to j (arriving (card_at plan i) t))
      (λ i from inside. enter_column (card_at plan i) (λ l. old i j l t) j (arriving (card_at plan i) t)) in
      omega (arith, same, plus, few)

-- a count that grows by no more than this in each slot
grows : (f c : ℕ → ℕ) → ((t : ℕ) → f (suc t) ≤ f t + c t) → (w t : ℕ) → f (t + w) ≤ f t + sum_by c (range_with_len t w)
grows f c step zero t = subst (λ u. f u ≤ f t + 0) (past t) (here (f t)) where
  past : (x : ℕ) → x ≡ x + 0
  past x = omega arith

  here : (x : ℕ) → x ≤ x + 0
  here x = omega arith
grows f c step (suc w) t = subst (λ u. f u ≤ f t + sum_by c (range_with_len t (suc w))) (next t w)
    (omega (arith, grows f c step w (t + 1), ap f (add-one t), step t, sum_by-cons c t (range_with_len (t + 1) w))) where
      next : (x y : ℕ) → x + 1 + y ≡ x + suc y
      next x y = omega arith

-- what comes in some slots in a row is no more than what arrives in them
module _ (scheduler : Scheduler) (plan : SwitchPlan) (slots : ℕ) where
  abbrev n : ℕ
  n = ports_of plan

  pub queue_grows : (i j l t : ℕ) → came_under scheduler plan i j l (t + slots) ≤ came_under scheduler plan i j l t
      + sum_by (arriving_in plan i j l) (range_with_len t slots)
  queue_grows i j l t = grows (came_under scheduler plan i j l) (arriving_in plan i j l) (queue_more scheduler plan i j l) slots t

  pub in_grows : (i t : ℕ) → of_input n LEVELS (came_under scheduler plan) i (t + slots) ≤ of_input n LEVELS (came_under scheduler plan) i t
      + sum_by (arriving_at plan i) (range_with_len t slots)
  in_grows i t = grows (of_input n LEVELS (came_under scheduler plan) i) (arriving_at plan i) (input_more scheduler plan i) slots t

  pub out_grows : (j t : ℕ) → for_output n LEVELS (came_under scheduler plan) j (t + slots) ≤ for_output n LEVELS (came_under scheduler plan) j t
      + sum_by (arriving_for plan j) (range_with_len t slots)
  out_grows j t = grows (for_output n LEVELS (came_under scheduler plan) j) (arriving_for plan j) (output_more scheduler plan j) slots t
