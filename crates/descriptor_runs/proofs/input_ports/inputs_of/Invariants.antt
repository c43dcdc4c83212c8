use Rattle.std.proofs.Common.{◌≡◌, ◌≤◌, ◌++◌, ℕ, [], false, Some, length, map}
use Rattle.std.specs.Prelude.{slice_get, vec_capacity}
use Rattle.std.specs.Vec.Iter.{into_iter_items, into_iter_len}
use Rattle.card_core.specs.Plans.{plan_of}
use Rattle.descriptor_runs.specs.InputSteps.{InputValue, HasServed}
use Rattle.descriptor_runs.proofs.input_ports.inputs_of.Given as goal

abbrev pub invariant-loop-plan : goal.invariant-loop-plan
invariant-loop-plan l = record {
  rest : l.yielded ++ into_iter_items l.plan-iterator ≡ into_iter_items l.initial.plan-iterator;
  left : into_iter_len l.plan-iterator ≡ length (into_iter_items l.plan-iterator);
  plans : map (λ (input : InputValue). input.plan) l.inputs.items ≡ map plan_of l.yielded;
  served : (i : ℕ) (input : InputValue) → slice_get l.inputs.items i ≡ Some input → HasServed input [] false;
  room : length l.fn.plans.items ≤ vec_capacity l.inputs;
}
