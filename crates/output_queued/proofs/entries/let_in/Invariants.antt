use Rattle.std.proofs.Common.{◌≡◌, ◌+◌, ◌*◌, ℕ, ◌≤◌, List, Option, length}
use Rattle.slot_match.specs.declared.matching.Served.{Served}
use Rattle.output_queued.specs.NotingSteps.{tally_at, IsUnserved}
use Rattle.output_queued.specs.Steps.{Stand, HaveEntered}
use Rattle.output_queued.proofs.entries.let_in.Given as goal

abbrev pub invariant-loop-input : goal.invariant-loop-input
invariant-loop-input l = record {
  count : length l.tallies.items ≡ length l.fn.tallies.items;
  long : length l.inputs.items ≡ length l.fn.inputs.items;
  small : (j : ℕ) → (tally_at l.tallies.items j).came ≤ (tally_at l.fn.tallies.items j).came + 1171 * l.input;
  unserved : IsUnserved l.unserved l.tallies.items;
  entered : (ports depth : ℕ) (served : ℕ → List (Option Served)) → Stand ports depth l.slot l.fn.inputs.items served
      → HaveEntered ports depth l.slot l.input served l.fn.inputs.items l.inputs.items l.fn.tallies.items l.tallies.items;
}
