use Rattle.eslip_rounds.specs.Slots.{AreMoved}
use Rattle.eslip_rounds.specs.Decisions.{decision_of}
use Rattle.eslip_rounds.proofs.Scheduling.{IsSchedulerBy-decision_of, IsScheduler-decision_of}
use Rattle.run_laws.proofs.RunSchedule.{run-schedule, run-within, run-kept}
use Rattle.run_laws.proofs.slots.slots_are_a_schedule.Goals as goal

pub returns-clause-schedule : goal.returns-clause-schedule
returns-clause-schedule c plan slots good = run-schedule decision_of IsScheduler-decision_of plan good AreMoved IsSchedulerBy-decision_of slots

pub returns-clause-within : goal.returns-clause-within
returns-clause-within c scheduler plan slots scheduling good = run-within scheduler scheduling plan good slots

pub returns-clause-kept : goal.returns-clause-kept
returns-clause-kept c scheduler plan slots scheduling good = run-kept scheduler scheduling plan good slots
