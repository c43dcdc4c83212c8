use Rattle.rrm_rounds.specs.Slots.{AreMovedByRrm}
use Rattle.rrm_rounds.specs.Decisions.{rrm_decision}
use Rattle.run_laws.proofs.RunSchedule.{run-schedule, run-within, run-kept}
use Rattle.rrm_rounds.proofs.Scheduling.{IsSchedulerBy-rrm_decision, IsScheduler-rrm_decision}
use Rattle.scheduler_runs.proofs.laws.rrm_slots_are_a_schedule.Goals as goal

pub returns-clause-schedule : goal.returns-clause-schedule
returns-clause-schedule c plan slots good = run-schedule rrm_decision IsScheduler-rrm_decision plan good AreMovedByRrm IsSchedulerBy-rrm_decision slots

pub returns-clause-within : goal.returns-clause-within
returns-clause-within c plan slots good = run-within rrm_decision IsScheduler-rrm_decision plan good slots

pub returns-clause-kept : goal.returns-clause-kept
returns-clause-kept c plan slots good = run-kept rrm_decision IsScheduler-rrm_decision plan good slots
