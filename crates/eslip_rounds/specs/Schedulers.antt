-- Schedulers: what a slot decides, as a function of its rows and of the pointers before it.
use Rattle.std.specs.Prelude.{◌≡◌, ℕ, List}
use Rattle.slot_match.specs.declared.rows.Row.{Row}
use Rattle.slot_match.specs.Rows.{AreWithin}
use Rattle.pointer_state.specs.Places.{Places, AreAtPorts}
use Rattle.eslip_rounds.specs.Slots.{Decision, Moving, IsSlotBy}

-- what is decided of the ports, the rounds of a slot, the slot's number, its rows, and the pointers before it
abbrev pub Scheduler : Type 0
Scheduler = ℕ → ℕ → ℕ → List Row → Places → Decision

-- From rows within the ports and pointers at ports the scheduler decides a slot of request, grant and accept,
-- where `Moves` says how its pointers move.
abbrev pub IsSchedulerBy : Moving → Scheduler → Type 0
IsSchedulerBy Moves scheduler = (n rounds t : ℕ) (rows : List Row) (places : Places) → AreWithin n rows → AreAtPorts places → places.ports ≡ n
    → IsSlotBy Moves n rounds t rows places (scheduler n rounds t rows places)

-- the pointers after a slot are at ports of the same switch, whichever they are
abbrev pub StayAtPorts : Moving
StayAtPorts n t rows first_match matched before after = AreAtPorts after × (after.ports ≡ before.ports)

-- it decides such slots, and its pointers stay at ports
abbrev pub IsScheduler : Scheduler → Type 0
IsScheduler = IsSchedulerBy StayAtPorts
