-- The state of a closed board and its journal, with the number of refused tries that the close told.
use Rattle.std.specs.Prelude.{ℕ, List}
use Rattle.slot_histories.specs.declared.events.Event.{Event}
use Rattle.slot_histories.specs.Events.{Setup}
use Rattle.slot_histories.specs.Answers.{JournalSlot}
use Rattle.board_state.specs.Boards.{BoardValue}

-- A closed board: what it was made for, all that has happened, and the refused tries of the close.
pub record StateValue : Type 0 where
  pub setup : Setup
  pub events : List Event
  pub refused : ℕ

-- the board without that number
abbrev pub board_in : StateValue → BoardValue
board_in state = record { setup = state.setup; events = state.events }

-- Its journal: the setup, the decided slots, how many events there were, and the refused tries of the close.
pub record JournalValue : Type 0 where
  pub setup : Setup
  pub slots : List JournalSlot
  pub events : ℕ
  pub refused : ℕ
