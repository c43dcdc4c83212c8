use Rattle.std.proofs.Common.{◌≡◌, ◌-◌, false}
use Rattle.eslip_rounds.specs.Schedulers.{Scheduler, IsScheduler}
use Rattle.idle_slots.specs.Quiet.{IsQuiet}
use Rattle.slot_histories.specs.Slots.{is_done_before}
use Rattle.switch_plan.specs.GoodPlans.{SwitchPlan, IsGood}
use Rattle.run_laws.specs.Runs.{ports_of, posts_under}
use Rattle.descriptor_runs.specs.OutputSteps.{keeping}
use Rattle.descriptor_runs.specs.SwitchSteps.{IsBefore}
use Rattle.descriptor_runs.proofs.switch.Switch.run.Given as goal

abbrev pub invariant-loop-slot : goal.invariant-loop-slot
invariant-loop-slot g l = record {
  run : (scheduler : Scheduler) (plan : SwitchPlan) → IsScheduler scheduler → IsQuiet scheduler → IsGood plan → l.max_slots ≡ plan.max_slots
      → IsBefore scheduler plan 0 l.fn.self → g.S.SlotSink.noted l.fn.sink scheduler plan 0
      → IsBefore scheduler plan l.slot l.self × (is_done_before (ports_of plan) (posts_under scheduler plan) l.slot ≡ false)
      × g.S.SlotSink.noted l.sink scheduler plan l.slot;
  kept : keeping l.self.outputs.items ≡ keeping l.fn.self.outputs.items;
  wanted : g.S.SlotSink.wanted l.sink ≡ g.S.SlotSink.wanted l.fn.sink;
}

abbrev pub decreases-loop-slot : goal.decreases-loop-slot
decreases-loop-slot g l = l.max_slots - l.slot
