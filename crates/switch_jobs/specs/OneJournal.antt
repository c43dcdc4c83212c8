-- That the journal of a run is of one legal list of events, which begins with those of its board.
use Rattle.std.specs.Prelude.{◌≡◌, ◌⊎◌, ◌-◌, ◌^◌, ℕ, true, List, length}
use Rattle.slot_histories.specs.declared.events.Event.{Event}
use Rattle.slot_histories.specs.Legal.{IsLegal}
use Rattle.slot_histories.specs.Answers.{journal_of}
use Rattle.turn_lock.specs.Seats.{TurnValue, SeatValue, AreSeats}
use Rattle.slot_board.specs.States.{StateValue, JournalValue}
use Rattle.slot_board.specs.Boards.{IsClosed}
use Rattle.slot_board.specs.Seats.{is_due, refusals}
use Rattle.card_worker.specs.declared.hands.Hand.{Hand}
use Rattle.card_worker.specs.declared.hands.Group.{Group}
use Rattle.card_worker.specs.declared.hands.Member.{Member}
use Rattle.card_worker.specs.Disbanding.{AreFrom, IsAmong, member_count}
use Rattle.card_worker.specs.Alone.{GoesOn}

-- The state went on from a board that was closed with all its seats, those of the groups' members: its events are one
-- legal list, which begins with those of the board's history, and no refused tries were added.
pub record GoesOnFrom (board : TurnValue Event) (groups : List Group) (state : StateValue) : Type 0 where
  pub seats : List (SeatValue Event)
  pub hands : List Hand
  pub closed : StateValue
  pub from : AreFrom groups seats hands (member_count groups)
  pub all_seats : AreSeats board seats
  pub is_closed : IsClosed board seats closed
  pub goes_on : GoesOn closed.events state.events
  pub legal : IsLegal state.setup state.events
  pub setup : state.setup ≡ closed.setup
  pub refused : state.refused ≡ closed.refused

-- each due member was refused exactly so often
abbrev pub HaveWaited : ℕ → List Group → Type 0
HaveWaited patience groups = (member : Member) → IsAmong member groups → is_due member.seat ≡ true → refusals member.seat ≡ patience

-- The least of the refused tries of the cards that were due when the board was closed is so many, where one was due.
abbrev pub WasTried : ℕ → JournalValue → Type 0
WasTried patience journal = (journal.refused ≡ patience) ⊎ (journal.refused ≡ 2 ^ 64 - 1)

-- what a state leaves
abbrev pub journal_left : StateValue → JournalValue
journal_left state = record { setup = state.setup; slots = journal_of state.setup state.events; events = length state.events; refused = state.refused }

-- The journal is of one legal list of events, which begins with those of the history of a closed board, whose cards gave
-- up when they had been refused so often.
pub record IsOneJournal (patience : ℕ) (journal : JournalValue) : Type 0 where
  pub board : TurnValue Event
  pub groups : List Group
  pub state : StateValue
  pub goes_on : GoesOnFrom board groups state
  pub waited : HaveWaited patience groups
  pub is : journal ≡ journal_left state
