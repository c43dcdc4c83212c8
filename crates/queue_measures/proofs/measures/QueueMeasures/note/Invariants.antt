use Rattle.std.proofs.Common.{◌≡◌, ℕ, ◌+◌, ◌<◌, ◌≤◌, None, length, slice_index_or}
use Rattle.slot_match.specs.Parts.{served_of}
use Rattle.eslip_rounds.specs.Schedulers.{Scheduler}
use Rattle.switch_plan.specs.GoodPlans.{SwitchPlan}
use Rattle.run_laws.specs.Runs.{card_at, parts_under, IsSlotUnder}
use Rattle.queue_measures.specs.NotingSteps.{HasNoted, IsNoted, no_input}
use Rattle.queue_measures.proofs.measures.QueueMeasures.note.Given as goal

abbrev pub invariant-loop-i : goal.invariant-loop-i
invariant-loop-i l = record {
  long : length l.self-inside.inputs.items ≡ length l.fn.self;
  parts : (i : ℕ) → i < length l.matched → slice_index_or l.self-inside.parts i None ≡ served_of l.matched i;
  noted : (scheduler : Scheduler) (plan : SwitchPlan) → HasNoted scheduler plan l.fn.self l.slot → IsSlotUnder scheduler plan l.slot l.posts l.matched
      → (i : ℕ) → i < l.i → IsNoted (card_at plan i) (slice_index_or l.self-inside.inputs.items i no_input) (parts_under scheduler plan i (l.slot + 1));
  left : (i : ℕ) → l.i ≤ i → slice_index_or l.self-inside.inputs.items i no_input ≡ slice_index_or l.fn.self i no_input;
}
