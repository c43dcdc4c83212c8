use Rattle.std.proofs.Common.{◌≡◌, ℕ, ◌<◌, ◌≤◌, length}
use Rattle.slot_match.specs.Parts.{served_of}
use Rattle.output_queued.specs.NotingSteps.{source_at}
use Rattle.output_queued.specs.Steps.{HasTaken}
use Rattle.output_queued.proofs.entries.take_served.Given as goal

abbrev pub invariant-loop-input : goal.invariant-loop-input
invariant-loop-input l = record {
  long : length l.inputs.items ≡ length l.fn.inputs.items;
  taken : (i : ℕ) → i < l.input → HasTaken (served_of l.matched i) (source_at l.fn.inputs.items i) (source_at l.inputs.items i);
  left : (i : ℕ) → l.input ≤ i → source_at l.inputs.items i ≡ source_at l.fn.inputs.items i;
}
