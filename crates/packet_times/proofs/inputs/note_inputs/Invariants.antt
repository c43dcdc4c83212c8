use Rattle.std.proofs.Common.{◌≡◌, length}
use Rattle.eslip_rounds.specs.Schedulers.{Scheduler}
use Rattle.switch_plan.specs.GoodPlans.{SwitchPlan}
use Rattle.run_laws.specs.Runs.{IsSlotUnder}
use Rattle.packet_times.specs.Steps.{AreNoted}
use Rattle.packet_times.proofs.inputs.note_inputs.Given as goal

abbrev pub invariant-loop-i : goal.invariant-loop-i
invariant-loop-i l = record {
  long : length l.inputs ≡ length l.fn.inputs;
  noted : (scheduler : Scheduler) (plan : SwitchPlan) → AreNoted scheduler plan l.slot 0 l.fn.inputs → IsSlotUnder scheduler plan l.slot l.posts l.matched
      → AreNoted scheduler plan l.slot l.i l.inputs;
}
