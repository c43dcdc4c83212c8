use Rattle.firm_rounds.specs.Slots.{AreMovedByFirm}
use Rattle.firm_rounds.specs.Decisions.{firm_decision}
use Rattle.run_laws.proofs.RunSchedule.{run-schedule, run-within, run-kept}
use Rattle.named_schedulers.proofs.FirmScheduler.{IsSchedulerBy-firm_decision, IsScheduler-firm_decision}
use Rattle.scheduler_runs.proofs.laws.slots_are_a_schedule.Goals as goal

pub returns-clause-schedule : goal.returns-clause-schedule
returns-clause-schedule c plan slots good = run-schedule firm_decision IsScheduler-firm_decision plan good AreMovedByFirm IsSchedulerBy-firm_decision slots

pub returns-clause-within : goal.returns-clause-within
returns-clause-within c plan slots good = run-within firm_decision IsScheduler-firm_decision plan good slots

pub returns-clause-kept : goal.returns-clause-kept
returns-clause-kept c plan slots good = run-kept firm_decision IsScheduler-firm_decision plan good slots
