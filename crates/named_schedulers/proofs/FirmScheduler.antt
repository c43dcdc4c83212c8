-- FIRM is a scheduler.
use Rattle.eslip_rounds.specs.Schedulers.{IsSchedulerBy, StayAtPorts, IsScheduler}
use Rattle.eslip_rounds.proofs.Scheduling.{IsSlotBy-moved}
use Rattle.firm_rounds.specs.Slots.{AreMovedByFirm}
use Rattle.firm_rounds.specs.Decisions.{firm_decision}
use Rattle.firm_rounds.proofs.Computed.{IsFirmSlot-firm_decision, AreAtPorts-firm_decision}

pub IsSchedulerBy-firm_decision : IsSchedulerBy AreMovedByFirm firm_decision
IsSchedulerBy-firm_decision n rounds t rows places within at_ports ports = IsFirmSlot-firm_decision n t rows places within at_ports ports rounds

pub IsScheduler-firm_decision : IsScheduler firm_decision
IsScheduler-firm_decision n rounds t rows places within at_ports ports =
    IsSlotBy-moved StayAtPorts n rounds t rows places (firm_decision n rounds t rows places)
    (IsFirmSlot-firm_decision n t rows places within at_ports ports rounds)
    (λ first_match moved. (AreAtPorts-firm_decision n t rows places within at_ports ports rounds, moved.ports))
