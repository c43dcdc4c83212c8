-- What is computed of a slot is a scheduler's decision.
use Rattle.std.proofs.Common.{ℕ, List, Option}
use Rattle.slot_match.specs.declared.rows.Row.{Row}
use Rattle.slot_match.specs.declared.matching.Fed.{Fed}
use Rattle.pointer_state.specs.Places.{Places}
use Rattle.eslip_rounds.specs.Slots.{Decision, Moving, AreMoved, IsSlotBy}
use Rattle.eslip_rounds.specs.Decisions.{decision_of}
use Rattle.eslip_rounds.specs.Schedulers.{IsSchedulerBy, StayAtPorts, IsScheduler}
use Rattle.eslip_rounds.proofs.Settling.{IsSlot-decision_of, AreAtPorts-decision_of}

-- a slot whose pointers are told to move in another way
pub IsSlotBy-moved : {Moves : Moving} (Others : Moving) (n rounds t : ℕ) (rows : List Row) (before : Places) (a : Decision)
    → IsSlotBy Moves n rounds t rows before a
    → ((first_match : List (Option Fed)) → Moves n t rows first_match a.matched before a.places → Others n t rows first_match a.matched before a.places)
    → IsSlotBy Others n rounds t rows before a
IsSlotBy-moved Others n rounds t rows before a slot moves =
    record { steps = slot.steps; count = slot.count; chain = slot.chain; result = slot.result; numbered = slot.numbered; moved = moves _ slot.moved }

pub IsSchedulerBy-decision_of : IsSchedulerBy AreMoved decision_of
IsSchedulerBy-decision_of n rounds t rows places within at_ports ports = IsSlot-decision_of n t rows places within at_ports ports rounds

pub IsScheduler-decision_of : IsScheduler decision_of
IsScheduler-decision_of n rounds t rows places within at_ports ports =
    IsSlotBy-moved StayAtPorts n rounds t rows places (decision_of n rounds t rows places) (IsSlot-decision_of n t rows places within at_ports ports rounds)
    (λ first_match moved. (AreAtPorts-decision_of n t rows places within at_ports ports rounds, moved.ports))
