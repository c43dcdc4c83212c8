use Rattle.rrm_rounds.specs.Slots.{AreMovedByRrm}
use Rattle.rrm_rounds.specs.Decisions.{rrm_decision}
use Rattle.rrm_rounds.proofs.Scheduling.{IsSchedulerBy-rrm_decision, IsScheduler-rrm_decision}
use Rattle.scheduler_laws.proofs.Loads.{loads}
use Rattle.scheduler_laws.proofs.round_robin.rrm_full_load_comes.Goals as goal

pub returns : goal.returns
returns c = λ n rounds t level count places at_ports ports level_in. loads n level level_in AreMovedByRrm rrm_decision IsSchedulerBy-rrm_decision
    IsScheduler-rrm_decision rounds count t places at_ports ports
