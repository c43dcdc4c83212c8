-- The slot that each scheduler decides, by the scheduler's name.
use Rattle.std.specs.Prelude.{ℕ, List}
use Rattle.scheduler_names.specs.declared.names.SchedulerName.{SchedulerName}
use Rattle.scheduler_names.specs.declared.names.SchedulerName.TheVariants.{Islip, Firm, Rrm}
use Rattle.slot_match.specs.declared.rows.Row.{Row}
use Rattle.pointer_state.specs.Places.{Places}
use Rattle.eslip_rounds.specs.Slots.{Decision, IsSlot}
use Rattle.firm_rounds.specs.Slots.{IsFirmSlot}
use Rattle.rrm_rounds.specs.Slots.{IsRrmSlot}

-- the decision is that of the slot under the scheduler
abbrev pub IsSlotUnder : SchedulerName → ℕ → ℕ → ℕ → List Row → Places → Decision → Type 0
IsSlotUnder Islip = IsSlot
IsSlotUnder Firm = IsFirmSlot
IsSlotUnder Rrm = IsRrmSlot
