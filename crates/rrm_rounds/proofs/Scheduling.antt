-- Round-robin matching is a scheduler.
use Rattle.eslip_rounds.specs.Schedulers.{IsSchedulerBy, StayAtPorts, IsScheduler}
use Rattle.eslip_rounds.proofs.Scheduling.{IsSlotBy-moved}
use Rattle.rrm_rounds.specs.Slots.{AreMovedByRrm}
use Rattle.rrm_rounds.specs.Decisions.{rrm_decision}
use Rattle.rrm_rounds.proofs.Computed.{IsRrmSlot-rrm_decision, AreAtPorts-rrm_decision}

pub IsSchedulerBy-rrm_decision : IsSchedulerBy AreMovedByRrm rrm_decision
IsSchedulerBy-rrm_decision n rounds t rows places within at_ports ports = IsRrmSlot-rrm_decision n t rows places within at_ports ports rounds

pub IsScheduler-rrm_decision : IsScheduler rrm_decision
IsScheduler-rrm_decision n rounds t rows places within at_ports ports =
    IsSlotBy-moved StayAtPorts n rounds t rows places (rrm_decision n rounds t rows places)
    (IsRrmSlot-rrm_decision n t rows places within at_ports ports rounds)
    (λ first_match moved. (AreAtPorts-rrm_decision n t rows places within at_ports ports rounds, moved.ports))
