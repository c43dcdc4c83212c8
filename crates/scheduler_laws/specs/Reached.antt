-- Reached: schedules at line rate in which a request is served as late as can be.
use Rattle.std.specs.Prelude.{◌≡◌, ℕ, ◌<◌, List}
use Rattle.rotating_pick.specs.declared.kinds.Kind.TheVariants.{Uni}
use Rattle.slot_match.specs.declared.rows.Row.{Row}
use Rattle.slot_match.specs.Rows.{Names, row_of}
use Rattle.eslip_rounds.specs.Schedules.{DecidedSlot}
use Rattle.scheduler_laws.specs.FedSlots.{Traffic, IsAtLineRate, AreFed}
use Rattle.service_bound.specs.Windows.{InFirst, AreAtLineRate}
use Rattle.service_bound.specs.Latest.{ComesLast}

-- there are cells, at most one to each of the n inputs in a slot, for which these slots ask: in each slot each input asks
-- for exactly the outputs for which cells wait
abbrev pub AreFedAtLineRate : ℕ → List DecidedSlot → Type 0
AreFedAtLineRate n slots = (traffic : Traffic) × IsAtLineRate n traffic × AreFed n traffic slots

-- each of the n inputs asks for at most one output of the level as unicast
abbrev pub AskAtMostOne : ℕ → ℕ → List Row → Type 0
AskAtMostOne n level rows = (i j k : ℕ) → i < n → Names (row_of rows i) level Uni j → Names (row_of rows i) level Uni k → j ≡ k

-- A schedule of a switch of n ports at line rate, from slot 0, all pointers at port 0 and no requests on.
pub record ComesLastAtLineRate (n rounds first : ℕ) (slots : List DecidedSlot) : Type 0 where
  -- it is a schedule of rows that are kept, and its slots from slot `first` on are a window in which queue (0, 0) of
  -- level 0 is posted in every slot and served in the last one alone
  pub comes : ComesLast n rounds first 0 0 0 slots
  -- from one slot to the next each input begins to ask for at most one output of the level
  pub line_rate : AreAtLineRate n 0 slots
  -- and so it does in the first slot, before which it asked for none
  pub opens : InFirst (AskAtMostOne n 0) slots
