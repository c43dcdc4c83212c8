-- Nothing is dropped where the queues are as deep as the most cells that wait at an input.
use Rattle.std.proofs.Common.{◌≡◌, ◌∙◌, ℕ, suc, ◌+◌, ◌-◌, ◌*◌, ◌<◌, ◌≤◌, List, [], ◌∷◌, length, refl, sym, ap, subst, arith}
use Rattle.std.specs.Prelude.{sum_by}
use Rattle.std.specs.List.{range_with_len}
use Rattle.std_lemmas.proofs.Numbers.{below_power}
use Rattle.rotating_pick.specs.declared.limits.TheConstants.{LEVELS}
use Rattle.multicast_queue.specs.FanQueues.{FanCell}
use Rattle.eslip_rounds.specs.Schedulers.{Scheduler}
use Rattle.card_core.specs.Plans.{Queue, OfOutput, OfLevel}
use Rattle.card_core.specs.Queues.{waiting, queue_in}
use Rattle.card_core.specs.Posts.{has_cells}
use Rattle.queue_lengths.specs.Lengths.{IsQueue, length_in}
use Rattle.queue_lengths.proofs.Places.{IsQueue-packet}
use Rattle.switch_plan.specs.Totals.{total_work}
use Rattle.switch_plan.specs.GoodPlans.{SwitchPlan, IsGood, packets_in}
use Rattle.run_laws.specs.Runs.{ports_of, card_at, parts_under}
use Rattle.run_laws.specs.Ends.{IsLengthUnder}
use Rattle.run_laws.proofs.Base.{good-card, queue_in-same}
use Rattle.run_laws.proofs.FirstDone.{one_length}
use Rattle.run_laws.proofs.RunEnds.{run_ends}
use Rattle.run_laws.proofs.WaitingPackets.{waiting-admitted}
use Rattle.queue_measures.specs.Sizing.{with_depth, deepest_under, DropsNothing, IsSized}
use Rattle.arrival_bounds.specs.Arrivals.{IsShaped, ArePairsShaped, HasCurves, HasWindows, AreQueuesShaped, arriving_in}
use Rattle.arrival_bounds.specs.Waits.{IsUnicastRun, waiting_under, HoldByLine}
use Rattle.arrival_bounds.proofs.UnicastRuns.{of_level}
use Rattle.arrival_bounds.proofs.Depths.{deepest_within, own_depth_again, packets_same, inside_of, shaped_other, pairs_other, queues_other}
use Rattle.arrival_bounds.proofs.Depths.{curves_other, windows_other, run_other}
use Rattle.arrival_bounds.proofs.Ranges.{range_sum-term, range_sum-fewer}
use Rattle.arrival_bounds.proofs.Recent.{all_recent}
use Rattle.arrival_bounds.proofs.Bounds.{of_third, delays_by_pairs, buffers_by_lines, buffers_by_curves}

-- ---- no queue is longer than all that waits at its input
module _ (scheduler : Scheduler) (plan : SwitchPlan) (run : IsUnicastRun scheduler plan) (most : ℕ) where
  short_queue : (i t : ℕ) (q : Queue) → ((j l : ℕ) → j < ports_of plan → l < LEVELS → waiting_under scheduler plan i j l t ≤ most)
      → IsQueue (ports_of plan) q → ((l : ℕ) → q ≡ OfLevel l → ⊥)
      → length_in (card_at plan i) q (parts_under scheduler plan i t) t ≤ most
  short_queue i t (OfOutput j l) few is uni = few j l (omega (arith, is.0)) (omega (arith, is.1))
  short_queue i t (OfLevel l) few is uni = absurd (uni l refl)

  queue_few : (i t : ℕ) (q : Queue) → ((j l : ℕ) → j < ports_of plan → l < LEVELS → waiting_under scheduler plan i j l t ≤ most) → i < ports_of plan
      → length_in (card_at plan i) q (parts_under scheduler plan i t) t ≤ most
  queue_few i t q few inside = by_cells (waiting (queue_in (card_at plan i) q (parts_under scheduler plan i t) t)) refl where
    by_cells : (w : List FanCell) → waiting (queue_in (card_at plan i) q (parts_under scheduler plan i t) t) ≡ w
        → length_in (card_at plan i) q (parts_under scheduler plan i t) t ≤ most
    by_cells [] is = let none = ap length is in omega (arith, none)
    by_cells (c ∷ w) is =
        let found = waiting-admitted scheduler run.scheduling plan run.good (suc t) i t inside (omega arith) q (ap has_cells is) in
        let p = found.0 in
        let of = found.1 in
        let card = good-card plan run.good i inside in
        let planned = card.good.packets of.place p of.found in
        let small = below_power (card_at plan i).ports p.fan card.good.size planned.fan in
        let there : IsQueue (ports_of plan) q =
        subst (λ n. IsQueue n q) card.ports (subst (IsQueue (card_at plan i).ports) (sym found.2)
        (IsQueue-packet (card_at plan i).ports (length (card_at plan i).bytes) p planned)) in
        short_queue i t q few there
        (λ l level. of_level p l small of.routed (sym level ∙ found.2) (run.unicast i of.place p inside of.found))

  pub deepest_short : (slots : ℕ)
      → ((i j l t : ℕ) → i < ports_of plan → j < ports_of plan → l < LEVELS → waiting_under scheduler plan i j l t ≤ most)
      → deepest_under scheduler plan slots ≤ most
  deepest_short slots few =
      deepest_within scheduler plan slots most
      (λ i q t inside below. subst (λ s. length (waiting s) ≤ most) (sym (queue_in-same scheduler plan i t slots (early t slots below) q))
      (queue_few i t q (λ j l. few i j l t inside) inside)) where
        early : (x y : ℕ) → x < y → x ≤ y
        early x y less = omega arith

  pub deepest_few : (most_in most_out : ℕ → ℕ) (slots : ℕ) → HoldByLine scheduler plan most_in most_out
      → ((i : ℕ) → i < ports_of plan → most_in i ≤ most) → deepest_under scheduler plan slots ≤ most
  deepest_few most_in most_out slots holds few =
      deepest_short slots
      (λ i j l t i_in j_in l_in.
      let held = waiting_under scheduler plan in
      let level = range_sum-term 0 LEVELS (λ m. held i j m t) l (omega arith) (omega (arith, l_in)) in
      let output = range_sum-term 0 (ports_of plan) (λ y. sum_by (λ m. held i y m t) (range_with_len 0 LEVELS)) j (omega arith) (omega (arith, j_in)) in
      omega (arith, level, output, holds.inputs i t i_in, few i i_in))

some_depth : (plan : SwitchPlan) → IsGood plan → 0 < plan.depth
some_depth plan good =
    let card = good-card plan good 0 good.size.some in
    let deep = card.good.deep in
    let same = card.depth in
    omega arith

-- ---- nothing is dropped, by the sizing theorem: from a run of the same plan with room for all
module _ (sizing : (scheduler : Scheduler) (plan : SwitchPlan) (slots : ℕ) → IsGood plan → IsLengthUnder scheduler plan slots → IsSized scheduler plan slots)
    (roomy : (scheduler : Scheduler) (plan : SwitchPlan) (slots : ℕ) → IsGood plan → total_work (packets_in plan) ≤ plan.depth
    → DropsNothing scheduler plan slots) (any_depth : (plan : SwitchPlan) (depth : ℕ) → IsGood plan → 0 < depth → IsGood (with_depth depth plan))
    (scheduler : Scheduler) (plan : SwitchPlan) (run : IsUnicastRun scheduler plan) where
  -- the same plan with room for all, and its run
  abbrev roomier : SwitchPlan
  roomier = with_depth (total_work (packets_in plan) + 1) plan

  run_there : IsUnicastRun scheduler roomier
  run_there =
      let depth = total_work (packets_in plan) + 1 in
      run_other depth plan scheduler (any_depth plan depth run.good (one_more (total_work (packets_in plan)))) run where
        one_more : (x : ℕ) → 0 < x + 1
        one_more x = omega arith

  -- where no queue of it is deeper than those of the plan
  drops_where : (slots : ℕ) → ((count : ℕ) → deepest_under scheduler roomier count ≤ plan.depth) → IsLengthUnder scheduler plan slots
      → DropsNothing scheduler plan slots
  drops_where slots shallow ends =
      let depth = total_work (packets_in plan) + 1 in
      let again = own_depth_again depth plan run.good in
      let end = run_ends scheduler run_there.scheduling roomier run_there.good in
      let none = roomy scheduler roomier end.0 run_there.good (room _ _ (ap total_work (packets_same depth plan))) in
      let sized = (sizing scheduler roomier end.0 run_there.good end.1).enough none plan.depth (some_depth plan run.good) (shallow end.0) in
      let own = subst (λ p. DropsNothing scheduler p end.0) again sized.0 in
      let ends' = subst (λ p. IsLengthUnder scheduler p end.0) again (sized.1.ends end.1) in
      subst (λ s. DropsNothing scheduler plan s) (one_length scheduler plan end.0 slots ends' ends) own where
        room : (x y : ℕ) → x ≡ y → x ≤ y + 1
        room x y same = omega arith

  pub drops_nothing : (window cells slots : ℕ) → 0 < window → IsShaped plan window cells → 3 * cells ≤ window + 1 → cells ≤ plan.depth
      → IsLengthUnder scheduler plan slots → DropsNothing scheduler plan slots
  drops_nothing window cells slots some shaped few deep ends =
      let depth = total_work (packets_in plan) + 1 in
      let holds = buffers_by_lines scheduler roomier run_there window cells some (shaped_other depth plan window cells shaped) few in
      drops_where slots (λ count. deepest_few scheduler roomier run_there plan.depth (λ i. cells) (λ j. cells) count holds (λ i inside. deep)) ends

  pub drops_nothing_by_window : (cells slots : ℕ) → 0 < cells → IsShaped plan (3 * cells - 1) cells → cells ≤ plan.depth
      → IsLengthUnder scheduler plan slots → DropsNothing scheduler plan slots
  drops_nothing_by_window cells slots some shaped deep ends =
      let numbers = of_third cells some in drops_nothing (3 * cells - 1) cells slots numbers.0 shaped numbers.1 deep ends

  pub drops_nothing_by_curves : (most_in most_out : ℕ → ℕ → ℕ) (slots_in slots_out : ℕ → ℕ) (slots : ℕ) → HasCurves plan most_in most_out
      → HasWindows plan most_in most_out slots_in slots_out → ((i : ℕ) → i < ports_of plan → most_in i (slots_in i) ≤ plan.depth)
      → IsLengthUnder scheduler plan slots → DropsNothing scheduler plan slots
  drops_nothing_by_curves most_in most_out slots_in slots_out slots curves windows deep ends =
      let depth = total_work (packets_in plan) + 1 in
      let holds =
      buffers_by_curves scheduler roomier run_there most_in most_out slots_in slots_out (curves_other depth plan most_in most_out curves)
      (windows_other depth plan most_in most_out slots_in slots_out windows) in
      drops_where slots
      (λ count. deepest_few scheduler roomier run_there plan.depth (λ i. most_in i (slots_in i)) (λ j. most_out j (slots_out j)) count holds
      (λ i inside. deep i (inside_of depth plan i inside))) ends

  pub drops_nothing_by_queues : (most slots : ℕ) → ArePairsShaped plan (2 * most + 1) (most + 2) → AreQueuesShaped plan (most + 1) plan.depth
      → IsLengthUnder scheduler plan slots → DropsNothing scheduler plan slots
  drops_nothing_by_queues most slots shaped queues ends =
      let depth = total_work (packets_in plan) + 1 in
      let waits = delays_by_pairs scheduler roomier run_there most (pairs_other depth plan (2 * most + 1) (most + 2) shaped) in
      let recent = all_recent scheduler roomier run_there most waits in
      let few = queues_other depth plan (most + 1) plan.depth queues in
      drops_where slots
      (λ count. deepest_short scheduler roomier run_there plan.depth count
      (λ i j l t i_in j_in l_in. up _ _ _ _ (recent.queues i j l t i_in j_in l_in)
      (range_sum-fewer (arriving_in roomier i j l) (t - most) (t + 1 - (t - most)) (most + 1) (slots_few t most))
      (few i j l (t - most) i_in j_in l_in))) ends where
        slots_few : (x y : ℕ) → x + 1 - (x - y) ≤ y + 1
        slots_few x y = omega arith

        up : (x y z w : ℕ) → x ≤ y → y ≤ z → z ≤ w → x ≤ w
        up x y z w p q r = omega arith
