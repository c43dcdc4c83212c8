-- A multicast head completes under each scheduler.
use Rattle.std.proofs.Common.{ℕ}
use Rattle.scheduler_names.specs.declared.names.SchedulerName.{SchedulerName}
use Rattle.scheduler_names.specs.declared.names.SchedulerName.TheVariants.{Islip, Firm, Rrm}
use Rattle.eslip_rounds.specs.Schedulers.{IsScheduler}
use Rattle.eslip_rounds.proofs.Scheduling.{IsScheduler-decision_of}
use Rattle.firm_rounds.specs.Slots.{AreMovedByFirm}
use Rattle.firm_rounds.specs.Decisions.{firm_decision}
use Rattle.firm_rounds.proofs.PointersKept.{firm_keep, firm_pass}
use Rattle.rrm_rounds.specs.Slots.{AreMovedByRrm}
use Rattle.rrm_rounds.specs.Decisions.{rrm_decision}
use Rattle.rrm_rounds.proofs.PointersKept.{rrm_keep, rrm_pass}
use Rattle.rrm_rounds.proofs.Scheduling.{IsSchedulerBy-rrm_decision, IsScheduler-rrm_decision}
use Rattle.named_schedulers.specs.Named.{decision_named}
use Rattle.named_schedulers.proofs.FirmScheduler.{IsSchedulerBy-firm_decision, IsScheduler-firm_decision}
use Rattle.switch_plan.specs.GoodPlans.{SwitchPlan, IsGood}
use Rattle.run_laws.specs.Runs.{ports_of}
use Rattle.run_laws.specs.Ends.{IsLengthUnder}
use Rattle.run_laws.specs.InTime.{CompletesInTimeUnder}
use Rattle.run_laws.specs.Promises.{CompletesUnder}
use Rattle.run_laws.proofs.InTime.{completes-in_time_by}
use Rattle.run_laws.proofs.RunCompletes.{heads-complete, heads-complete_by}

pub completes-firm : (plan : SwitchPlan) (slots : ℕ) → IsGood plan → CompletesUnder firm_decision plan slots
completes-firm plan slots good =
    heads-complete_by AreMovedByFirm firm_decision plan IsScheduler-firm_decision IsSchedulerBy-firm_decision (firm_keep (ports_of plan))
    (firm_pass (ports_of plan)) good slots

completes-rrm : (plan : SwitchPlan) (slots : ℕ) → IsGood plan → CompletesUnder rrm_decision plan slots
completes-rrm plan slots good =
    heads-complete_by AreMovedByRrm rrm_decision plan IsScheduler-rrm_decision IsSchedulerBy-rrm_decision (rrm_keep (ports_of plan))
    (rrm_pass (ports_of plan)) good slots

pub completes-under_each : (name : SchedulerName) (plan : SwitchPlan) (slots : ℕ) → IsGood plan → CompletesUnder (decision_named name) plan slots
completes-under_each Islip plan slots good = heads-complete plan good slots
completes-under_each Firm plan slots good = completes-firm plan slots good
completes-under_each Rrm plan slots good = completes-rrm plan slots good

-- within that number of slots, or before the end
pub completes-in_time_under_each : (name : SchedulerName) (plan : SwitchPlan) (slots : ℕ) → IsGood plan → IsLengthUnder (decision_named name) plan slots
    → CompletesInTimeUnder (decision_named name) plan slots
completes-in_time_under_each name plan slots good =
    completes-in_time_by (decision_named name) plan (is_scheduler name) good slots (completes-under_each name plan slots good) where
      is_scheduler : (name : SchedulerName) → IsScheduler (decision_named name)
      is_scheduler Islip = IsScheduler-decision_of
      is_scheduler Firm = IsScheduler-firm_decision
      is_scheduler Rrm = IsScheduler-rrm_decision
