use Rattle.std.proofs.Common.{◌≡◌, ◌<◌, ◌≤◌, ℕ, true, false, Some, length, map}
use Rattle.std.specs.Prelude.{slice_get}
use Rattle.rotating_pick.specs.PortSets.{Has}
use Rattle.eslip_rounds.specs.Schedulers.{Scheduler}
use Rattle.switch_plan.specs.GoodPlans.{SwitchPlan}
use Rattle.run_laws.specs.Runs.{parts_under}
use Rattle.descriptor_runs.specs.InputSteps.{InputValue, HasServed, row_in}
use Rattle.descriptor_runs.specs.PortSteps.{IsFirst}
use Rattle.descriptor_runs.specs.SwitchSteps.{AreInputs}
use Rattle.descriptor_runs.proofs.input_ports.take_arrivals.Given as goal

abbrev pub invariant-loop-place : goal.invariant-loop-place
invariant-loop-place l = record {
  count : length l.inputs ≡ length l.fn.inputs;
  plans : map (λ (input : InputValue). input.plan) l.inputs ≡ map (λ (input : InputValue). input.plan) l.fn.inputs;
  later : (i : ℕ) → l.place ≤ i → slice_get l.inputs i ≡ slice_get l.fn.inputs i;
  rows : l.requests ≡ map row_in l.inputs;
  arrived : (scheduler : Scheduler) (plan : SwitchPlan) → AreInputs scheduler plan l.slot false l.fn.inputs → (i : ℕ) (input : InputValue) → i < l.place
      → slice_get l.inputs i ≡ Some input → HasServed input (parts_under scheduler plan i l.slot) true;
  others : (i : ℕ) → (Has l.came i → ⊥) → slice_get l.inputs i ≡ slice_get l.fn.inputs i;
  first : IsFirst l.place l.inputs l.next;
}
