use Rattle.std.proofs.Common.{◌≡◌, ◌<◌, ℕ, length}
use Rattle.std.specs.Prelude.{slice_get}
use Rattle.rotating_pick.specs.PortSets.{Has}
use Rattle.slot_match.specs.Matches.{IsFreeInput}
use Rattle.eslip_rounds.specs.Schedulers.{Scheduler}
use Rattle.switch_plan.specs.GoodPlans.{SwitchPlan}
use Rattle.descriptor_runs.proofs.ServedPorts.{IsServing, AreServed}
use Rattle.descriptor_runs.proofs.service.serve_inputs.Given as goal

abbrev pub invariant-loop-port : goal.invariant-loop-port
invariant-loop-port l = record {
  left : (i : ℕ) → Has l.rest i → (i < length l.matched) × (IsFreeInput l.matched i → ⊥);
  served : (scheduler : Scheduler) (plan : SwitchPlan) (t : ℕ) → IsServing scheduler plan t l.fn.inputs l.matched l.parts
      → AreServed scheduler plan t l.fn.inputs l.rest l.inputs l.names;
  others : (i : ℕ) → IsFreeInput l.matched i → slice_get l.inputs i ≡ slice_get l.fn.inputs i;
}

abbrev pub decreases-loop-port : goal.decreases-loop-port
decreases-loop-port l = l.rest
