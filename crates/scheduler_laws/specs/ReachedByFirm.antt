-- ReachedByFirm: schedules at line rate under FIRM in which a request is served as late as can be.
use Rattle.std.specs.Prelude.{ℕ, List, All, take, drop}
use Rattle.slot_match.specs.Rows.{AreWithin}
use Rattle.pointer_state.specs.Places.{places_at_first}
use Rattle.eslip_rounds.specs.Schedules.{DecidedSlot, IsScheduleBy}
use Rattle.service_bound.specs.Windows.{AreKept, InFirst, AreAtLineRate, places_after}
use Rattle.firm_rounds.specs.Slots.{AreMovedByFirm}
use Rattle.firm_rounds.specs.Latest.{IsServedLastByFirm}
use Rattle.scheduler_laws.specs.Reached.{AskAtMostOne}

-- A schedule of a switch of n ports at line rate under FIRM, from slot 0, all pointers at port 0 and no
-- requests on.
pub record ComesLastByFirmAtLineRate (n rounds first : ℕ) (slots : List DecidedSlot) : Type 0 where
  -- each slot is decided from the pointers that the one before left
  pub schedule : IsScheduleBy AreMovedByFirm n rounds 0 (places_at_first n) slots
  -- the rows name only ports of the switch
  pub within : All (λ slot. AreWithin n slot.rows) slots
  -- requests stay until they are served
  pub kept : AreKept n slots
  -- the slots from slot `first` on are a window in which queue (0, 0) of level 0 is posted in every slot and served in the
  -- last one alone
  pub last : IsServedLastByFirm n rounds first 0 0 0 (places_after (places_at_first n) (take first slots)) (drop first slots)
  -- from one slot to the next each input begins to ask for at most one output of the level
  pub line_rate : AreAtLineRate n 0 slots
  -- and so it does in the first slot, before which it asked for none
  pub opens : InFirst (AskAtMostOne n 0) slots
