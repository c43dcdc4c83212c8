use Rattle.rrm_rounds.proofs.Scheduling.{IsSchedulerBy-rrm_decision, IsScheduler-rrm_decision}
use Rattle.rrm_rounds.proofs.laws.rrm_is_a_scheduler.Goals as goal

pub returns-clause-moves : goal.returns-clause-moves
returns-clause-moves c = IsSchedulerBy-rrm_decision

pub returns-clause-stays : goal.returns-clause-stays
returns-clause-stays c = IsScheduler-rrm_decision
