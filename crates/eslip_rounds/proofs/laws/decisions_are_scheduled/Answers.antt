use Rattle.eslip_rounds.proofs.Scheduling.{IsScheduler-decision_of, IsSchedulerBy-decision_of}
use Rattle.eslip_rounds.proofs.laws.decisions_are_scheduled.Goals as goal

pub returns-clause-scheduler : goal.returns-clause-scheduler
returns-clause-scheduler c = IsScheduler-decision_of

pub returns-clause-moves : goal.returns-clause-moves
returns-clause-moves c = IsSchedulerBy-decision_of
