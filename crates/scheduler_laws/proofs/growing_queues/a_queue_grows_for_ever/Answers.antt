use Rattle.eslip_rounds.specs.Slots.{AreMoved}
use Rattle.eslip_rounds.specs.Decisions.{decision_of}
use Rattle.eslip_rounds.proofs.Scheduling.{IsSchedulerBy-decision_of, IsScheduler-decision_of}
use Rattle.firm_rounds.specs.Slots.{AreMovedByFirm}
use Rattle.firm_rounds.specs.Decisions.{firm_decision}
use Rattle.named_schedulers.proofs.FirmScheduler.{IsSchedulerBy-firm_decision, IsScheduler-firm_decision}
use Rattle.rrm_rounds.specs.Slots.{AreMovedByRrm}
use Rattle.rrm_rounds.specs.Decisions.{rrm_decision}
use Rattle.rrm_rounds.proofs.Scheduling.{IsSchedulerBy-rrm_decision, IsScheduler-rrm_decision}
use Rattle.scheduler_laws.proofs.Fed.{grows_for_ever}
use Rattle.scheduler_laws.proofs.MovedPairs.{islip_pairs, firm_pairs, rrm_pairs}
use Rattle.scheduler_laws.proofs.growing_queues.a_queue_grows_for_ever.Goals as goal

pub returns-clause-by_islip : goal.returns-clause-by_islip
returns-clause-by_islip c = λ n m rounds places more some some_rounds at_ports ports. grows_for_ever AreMoved islip_pairs decision_of IsSchedulerBy-decision_of
    IsScheduler-decision_of n rounds m places more some some_rounds at_ports ports

pub returns-clause-by_firm : goal.returns-clause-by_firm
returns-clause-by_firm c = λ n m rounds places more some some_rounds at_ports ports. grows_for_ever AreMovedByFirm firm_pairs firm_decision
    IsSchedulerBy-firm_decision IsScheduler-firm_decision n rounds m places more some some_rounds at_ports ports

pub returns-clause-by_rrm : goal.returns-clause-by_rrm
returns-clause-by_rrm c = λ n m rounds places more some some_rounds at_ports ports. grows_for_ever AreMovedByRrm rrm_pairs rrm_decision
    IsSchedulerBy-rrm_decision IsScheduler-rrm_decision n rounds m places more some some_rounds at_ports ports
