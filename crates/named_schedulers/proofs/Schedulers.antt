-- Each scheduler that has a name decides slots of request, grant and accept.
use Rattle.scheduler_names.specs.declared.names.SchedulerName.{SchedulerName}
use Rattle.scheduler_names.specs.declared.names.SchedulerName.TheVariants.{Islip, Firm, Rrm}
use Rattle.eslip_rounds.specs.Schedulers.{IsScheduler}
use Rattle.eslip_rounds.proofs.Scheduling.{IsScheduler-decision_of}
use Rattle.rrm_rounds.proofs.Scheduling.{IsScheduler-rrm_decision}
use Rattle.named_schedulers.proofs.FirmScheduler.{IsScheduler-firm_decision}
use Rattle.named_schedulers.specs.Named.{decision_named}

pub IsScheduler-named : (name : SchedulerName) → IsScheduler (decision_named name)
IsScheduler-named Islip = IsScheduler-decision_of
IsScheduler-named Firm = IsScheduler-firm_decision
IsScheduler-named Rrm = IsScheduler-rrm_decision
