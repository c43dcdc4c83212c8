use Rattle.std.proofs.Common.{◌≡◌, ◌≤◌, ℕ, Some, length}
use Rattle.std.specs.Prelude.{slice_get, vec_capacity}
use Rattle.descriptor_runs.specs.OutputSteps.{OutputValue, new_output}
use Rattle.descriptor_runs.proofs.switch.outputs_of.Given as goal

abbrev pub invariant-loop-plan : goal.invariant-loop-plan
invariant-loop-plan l = record {
  count : length l.outputs.items ≡ l.plan-index;
  each : (j : ℕ) (output : OutputValue) → slice_get l.outputs.items j ≡ Some output → output ≡ new_output l.captures l.nano l.link;
  room : length l.plans ≤ vec_capacity l.outputs;
}
