use Rattle.std.proofs.Common.{◌≡◌, ◌+◌, ◌<◌, ℕ, length}
use Rattle.rotating_pick.specs.PortSets.{Has}
use Rattle.slot_match.specs.Matches.{IsFreeOutput}
use Rattle.eslip_rounds.specs.Schedulers.{Scheduler}
use Rattle.switch_plan.specs.GoodPlans.{SwitchPlan}
use Rattle.descriptor_runs.specs.OutputSteps.{keeping}
use Rattle.descriptor_runs.specs.SwitchSteps.{AreOutputs}
use Rattle.descriptor_runs.proofs.Feeding.{IsFeeding, AreFed}
use Rattle.descriptor_runs.proofs.service.feed_outputs.Given as goal

abbrev pub invariant-loop-output : goal.invariant-loop-output
invariant-loop-output l = record {
  left : (j : ℕ) → Has l.rest j → (j < length l.matched) × (IsFreeOutput l.matched j → ⊥);
  fed : (scheduler : Scheduler) (plan : SwitchPlan) (t : ℕ) → IsFeeding scheduler plan t l.inputs l.names l.matched l.nano
      → AreOutputs scheduler plan (t + 1) l.fn.outputs → AreFed scheduler plan t l.rest l.outputs;
  kept : keeping l.outputs ≡ keeping l.fn.outputs;
}

abbrev pub decreases-loop-output : goal.decreases-loop-output
decreases-loop-output l = l.rest
