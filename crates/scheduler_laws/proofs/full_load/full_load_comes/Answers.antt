use Rattle.eslip_rounds.specs.Slots.{AreMoved}
use Rattle.eslip_rounds.specs.Decisions.{decision_of}
use Rattle.eslip_rounds.proofs.Scheduling.{IsSchedulerBy-decision_of, IsScheduler-decision_of}
use Rattle.scheduler_laws.proofs.Loads.{loads}
use Rattle.scheduler_laws.proofs.full_load.full_load_comes.Goals as goal

pub returns : goal.returns
returns c = λ n rounds t level count places at_ports ports level_in. loads n level level_in AreMoved decision_of IsSchedulerBy-decision_of
    IsScheduler-decision_of rounds count t places at_ports ports
