-- Schedules: slots one after the other, each from the pointers that the one before left.
use Rattle.std.specs.Prelude.{ℕ, ◌+◌, List, [], ◌∷◌}
use Rattle.slot_match.specs.declared.rows.Row.{Row}
use Rattle.pointer_state.specs.Places.{Places}
use Rattle.eslip_rounds.specs.Slots.{Decision, Moving, AreMoved, IsSlotBy}

-- a slot's rows and what it decides
pub record DecidedSlot : Type 0 where
  pub rows : List Row
  pub decision : Decision

-- these are the slots from slot t on, where `Moves` says how pointers move
abbrev pub IsScheduleBy : Moving → ℕ → ℕ → ℕ → Places → List DecidedSlot → Type 0
IsScheduleBy Moves n rounds t places [] = Unit {0}
IsScheduleBy Moves n rounds t places (slot ∷ slots) =
    IsSlotBy Moves n rounds t slot.rows places slot.decision × IsScheduleBy Moves n rounds (t + 1) slot.decision.places slots

-- these are the slots from slot t on
abbrev pub IsSchedule : ℕ → ℕ → ℕ → Places → List DecidedSlot → Type 0
IsSchedule = IsScheduleBy AreMoved
