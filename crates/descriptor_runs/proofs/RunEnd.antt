-- What a switch that has made its run to the end leaves is what the run leaves.
use Rattle.std.proofs.Common.{◌≡◌, ◌∙◌, ℕ, ◌+◌, ◌^◌, ◌<◌, ◌≤◌, false, List, length, map, Some, ap, subst, arith}
use Rattle.std.specs.Prelude.{slice_get, IfSome}
use Rattle.std.specs.List.{filter_map, sum_by, range_with_len}
use Rattle.std.proofs.lemmas.Option.{slice_get_within}
use Rattle.std_lemmas.proofs.MappedSums.{sum_by-map, sum_of}
use Rattle.std_lemmas.proofs.Sums.{range_sum-le}
use Rattle.rotating_pick.specs.declared.limits.TheConstants.{LEVELS}
use Rattle.pcap_records.specs.Output.{capture_text}
use Rattle.service_bound.specs.Waits.{NotedSlot, noted_of, longest_wait}
use Rattle.service_bound.specs.MeterSteps.{HasNoted}
use Rattle.eslip_rounds.specs.Schedulers.{Scheduler, IsScheduler}
use Rattle.card_core.specs.Plans.{Plan as CardPlan}
use Rattle.card_core.specs.Queues.{admitted, dropped}
use Rattle.slot_report.specs.declared.summary.OutLine.{OutLine}
use Rattle.slot_report.specs.declared.summary.Summary.{Summary}
use Rattle.switch_plan.specs.GoodPlans.{SwitchPlan, IsGood, IsCountable}
use Rattle.run_laws.specs.Runs.{ports_of, card_at, parts_under}
use Rattle.run_laws.specs.Ends.{IsLengthUnder}
use Rattle.run_laws.specs.Crossings.{cells_under}
use Rattle.run_laws.specs.Sums.{schedule_under}
use Rattle.run_laws.proofs.Base.{served-length}
use Rattle.run_laws.specs.Outcomes.{messages_under, admitted_count, dropped_count, over_ports, longest_under, summary_under}
use Rattle.run_laws.proofs.Counted.{counted-once}
use Rattle.slot_records.specs.Slots.{AddsNothing}
use Rattle.descriptor_runs.specs.InputSteps.{InputValue}
use Rattle.descriptor_runs.specs.OutputSteps.{OutputValue, HasCome, AreKeeping}
use Rattle.descriptor_runs.specs.SwitchSteps.{AreInputs, AreOutputs, IsBefore}
use Rattle.descriptor_runs.specs.Outcomes.{capture_under, captures_by, line_under}
use Rattle.descriptor_runs.specs.FinishingSteps.{ArePlanNumbers, line_of}
use Rattle.descriptor_runs.specs.declared.ends.PlanNumbers.{PlanNumbers}
use Rattle.descriptor_runs.specs.declared.outputs.Captures.{Captures}
use Rattle.descriptor_runs.specs.declared.outputs.Captures.TheVariants.{Kept, Dropped}
use Rattle.descriptor_runs.specs.declared.switch.Switch.{Switch}
use Rattle.descriptor_runs.proofs.InputPorts.{count-inputs, plan-of}
use Rattle.descriptor_runs.proofs.ByPlaces.{map_by_place}
use Rattle.descriptor_runs.proofs.Keeping.{text_of, all_kept, none_kept, kept_is}
use Rattle.descriptor_runs.proofs.CrossedCells.{cells_within}

-- ---- the numbers of the inputs at the end of a run
module _ (scheduler : Scheduler) (plan : SwitchPlan) (slots : ℕ) (inputs : List InputValue) (are : AreInputs scheduler plan slots false inputs) where
  dropped_is : (i : ℕ) (input : InputValue) → slice_get inputs i ≡ Some input → input.dropped ≡ dropped_count scheduler plan slots i
  dropped_is i input at =
      let parts = parts_under scheduler plan i slots in
      (are.served i input at).dropped
      ∙ ap (λ (card : CardPlan). dropped card parts (length parts)) (plan-of plan inputs are.plans i input at)
      ∙ ap (dropped (card_at plan i) parts) (served-length scheduler plan i slots)

  admitted_is : (i : ℕ) (input : InputValue) → slice_get inputs i ≡ Some input → input.admitted ≡ admitted_count scheduler plan slots i
  admitted_is i input at =
      let parts = parts_under scheduler plan i slots in
      (are.served i input at).admitted
      ∙ ap (λ (card : CardPlan). admitted card parts (length parts)) (plan-of plan inputs are.plans i input at)
      ∙ ap (admitted (card_at plan i) parts) (served-length scheduler plan i slots)

  sum_dropped : sum_by (λ (input : InputValue). input.dropped) inputs ≡ over_ports plan (dropped_count scheduler plan slots)
  sum_dropped = sum_of (λ (input : InputValue). input.dropped) (dropped_count scheduler plan slots) inputs (ports_of plan)
      (count-inputs plan inputs are.plans) dropped_is

  sum_admitted : sum_by (λ (input : InputValue). input.admitted) inputs ≡ over_ports plan (admitted_count scheduler plan slots)
  sum_admitted = sum_of (λ (input : InputValue). input.admitted) (admitted_count scheduler plan slots) inputs (ports_of plan)
      (count-inputs plan inputs are.plans) admitted_is

-- all packets that came are fewer than 2^32
came_few : (scheduler : Scheduler) (plan : SwitchPlan) (slots : ℕ) → IsGood plan → IsCountable plan → IsLengthUnder scheduler plan slots
    → over_ports plan (dropped_count scheduler plan slots) + over_ports plan (admitted_count scheduler plan slots) < 2 ^ 32
unfolding summary_under
came_few scheduler plan slots good countable ends =
    let once = counted-once scheduler plan slots good ends in
    let few = countable.packets in
    omega arith

-- ---- the outputs at the end of a run
module _ (scheduler : Scheduler) (plan : SwitchPlan) (slots : ℕ) (outputs : List OutputValue) (are : AreOutputs scheduler plan (slots + 1) outputs)
    (nothing : (j : ℕ) → j < ports_of plan → AddsNothing scheduler plan j slots (slots + 1)) where
  has_come : (j : ℕ) (output : OutputValue) → slice_get outputs j ≡ Some output → HasCome scheduler plan slots j output
  has_come j output at =
      let inside = slice_get_within outputs j output at in
      let count = are.count in
      let none = nothing j (omega arith) in
      let has = are.come j output at in
      record {
        text = subst (λ messages. IfSome output.text (λ text. text ≡ capture_text plan.nano plan.link messages)) none.messages has.text;
        packets = has.packets ∙ ap length none.messages;
        cells = has.cells ∙ ap length none.cells;
      }

  pub captures_are : (captures : Captures) → AreKeeping captures outputs
      → filter_map (λ (output : OutputValue). output.text) outputs ≡ captures_by captures scheduler plan slots
  captures_are Kept kept =
      all_kept outputs kept
      ∙ map_by_place text_of (capture_under scheduler plan slots) outputs (ports_of plan) are.count
      (λ j output at. kept_is output.text (capture_under scheduler plan slots j) (kept j output at) (has_come j output at).text)
  captures_are Dropped dropped = none_kept outputs dropped

  line_is : (j : ℕ) (output : OutputValue) → slice_get outputs j ≡ Some output → line_of output ≡ line_under scheduler plan slots j
  line_is j output at = let has = has_come j output at in let packets = has.packets in let cells = has.cells in cc

  pub lines_are : map line_of outputs ≡ map (line_under scheduler plan slots) (range_with_len 0 (ports_of plan))
  lines_are = map_by_place line_of (line_under scheduler plan slots) outputs (ports_of plan) are.count line_is

-- ---- sums over lines
module _ (scheduler : Scheduler) (plan : SwitchPlan) (slots : ℕ) (lines : List OutLine)
    (are : lines ≡ map (line_under scheduler plan slots) (range_with_len 0 (ports_of plan))) where
  sum_packets : sum_by (λ (line : OutLine). line.packets) lines ≡ over_ports plan (λ j. length (messages_under scheduler plan j slots))
  sum_packets = ap (sum_by (λ (line : OutLine). line.packets)) are
      ∙ sum_by-map (λ (line : OutLine). line.packets) (line_under scheduler plan slots) (range_with_len 0 (ports_of plan))

  sum_cells : sum_by (λ (line : OutLine). line.cells) lines ≡ over_ports plan (λ j. length (cells_under scheduler plan j slots))
  sum_cells = ap (sum_by (λ (line : OutLine). line.cells)) are
      ∙ sum_by-map (λ (line : OutLine). line.cells) (line_under scheduler plan slots) (range_with_len 0 (ports_of plan))

-- ---- a switch at the end of a run
-- the numbers of a run, one by one
abbrev numbers_with : PlanNumbers → ℕ → ℕ → ℕ → ℕ → ℕ → ℕ → ℕ → List ℕ → Summary
numbers_with numbers ports rounds slots dropped forwarded copies cells longest = record {
  ports = ports;
  rounds = rounds;
  depth = numbers.depth;
  slots = slots;
  packets = numbers.packets;
  oversize = numbers.oversize;
  unrouted = numbers.unrouted;
  dropped = dropped;
  forwarded = forwarded;
  copies = copies;
  cells = cells;
  longest = longest;
}

module _ (scheduler : Scheduler) (scheduling : IsScheduler scheduler) (plan : SwitchPlan) (good : IsGood plan) (countable : IsCountable plan) (slots : ℕ)
    (ends : IsLengthUnder scheduler plan slots) (switch : Switch) (is : IsBefore scheduler plan slots switch) where
  pub dropped_fits : sum_by (λ (input : InputValue). input.dropped) switch.inputs < 2 ^ 32
  dropped_fits =
      let few = came_few scheduler plan slots good countable ends in
      let sum = sum_dropped scheduler plan slots switch.inputs is.inputs in
      omega (arith, few, sum)

  pub admitted_fits : sum_by (λ (input : InputValue). input.admitted) switch.inputs < 2 ^ 32
  admitted_fits =
      let few = came_few scheduler plan slots good countable ends in
      let sum = sum_admitted scheduler plan slots switch.inputs is.inputs in
      omega (arith, few, sum)

  -- with these lines, where nothing crosses after the end and no more messages than cells have crossed
  module _ (lines : List OutLine) (are : lines ≡ map line_of switch.outputs.items)
      (nothing : (j : ℕ) → j < ports_of plan → AddsNothing scheduler plan j slots (slots + 1))
      (fewer : (j : ℕ) → length (messages_under scheduler plan j slots) ≤ length (cells_under scheduler plan j slots)) where
    pub these_lines : lines ≡ map (line_under scheduler plan slots) (range_with_len 0 (ports_of plan))
    these_lines = are ∙ lines_are scheduler plan slots switch.outputs.items is.outputs nothing

    pub cells_fit : sum_by (λ (line : OutLine). line.cells) lines < 2 ^ 32
    cells_fit =
        let within = cells_within scheduler scheduling plan good slots ends in
        let few = countable.cells in
        let sum = sum_cells scheduler plan slots lines these_lines in
        omega (arith, within, few, sum)

    pub packets_fit : sum_by (λ (line : OutLine). line.packets) lines < 2 ^ 32
    packets_fit =
        let within = cells_within scheduler scheduling plan good slots ends in
        let few = countable.cells in
        let each = range_sum-le 0 (ports_of plan) (λ j. length (messages_under scheduler plan j slots)) (λ j. length (cells_under scheduler plan j slots))
        (λ j from below. fewer j) in
        let sum = sum_packets scheduler plan slots lines these_lines in
        omega (arith, within, few, each, sum)

    pub summary_is : (numbers : PlanNumbers) → ArePlanNumbers plan numbers → (ports dropped forwarded copies cells : ℕ) (longest : List ℕ)
        → ports ≡ switch.meter.ports → dropped ≡ sum_by (λ (input : InputValue). input.dropped) switch.inputs
        → forwarded ≡ sum_by (λ (input : InputValue). input.admitted) switch.inputs → copies ≡ sum_by (λ (line : OutLine). line.packets) lines
        → cells ≡ sum_by (λ (line : OutLine). line.cells) lines
        → ((noted : List NotedSlot) → HasNoted switch.meter noted
        → longest ≡ map (λ level. longest_wait switch.meter.ports level noted) (range_with_len 0 LEVELS))
        → numbers_with numbers ports switch.rounds slots dropped forwarded copies cells longest ≡ summary_under scheduler plan slots
    unfolding summary_under
    summary_is numbers told ports dropped forwarded copies cells longest ports_is dropped_is forwarded_is copies_is cells_is longest_is =
        let size : ports ≡ ports_of plan = ports_is ∙ is.switch_is.meter_ports in
        let rounds : switch.rounds ≡ plan.rounds = is.switch_is.rounds in
        let drops = dropped_is ∙ sum_dropped scheduler plan slots switch.inputs is.inputs in
        let admits = forwarded_is ∙ sum_admitted scheduler plan slots switch.inputs is.inputs in
        let messages = copies_is ∙ sum_packets scheduler plan slots lines these_lines in
        let crossed = cells_is ∙ sum_cells scheduler plan slots lines these_lines in
        let noted = map noted_of (schedule_under scheduler plan slots) in
        let waits : longest ≡ map (longest_under scheduler plan slots) (range_with_len 0 LEVELS) =
        longest_is noted is.switch_is.noted
        ∙ ap (λ (n : ℕ). map (λ level. longest_wait n level noted) (range_with_len 0 LEVELS)) is.switch_is.meter_ports in
        let depth = told.depth in
        let packets = told.packets in
        let oversize = told.oversize in
        let unrouted = told.unrouted in
        cc
