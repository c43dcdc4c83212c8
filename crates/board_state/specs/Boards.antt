-- What a board is: its setup and its events so far; and its journal.
use Rattle.std.specs.Prelude.{ℕ, ◌+◌, ◌<◌, ◌≤◌, ◌≡◌, ◌↔◌, nat_lt, true, List, [], ◌∷◌, ◌++◌, length}
use Rattle.rotating_pick.specs.declared.limits.TheConstants.{MAX_PORTS, MAX_ROUNDS}
use Rattle.rotating_pick.specs.PortSets.{Has}
use Rattle.board_state.specs.declared.books.CardBook.{CardBook}
use Rattle.slot_histories.specs.declared.events.Event.{Event}
use Rattle.slot_histories.specs.Events.{Setup, posts_of, takes_of, decides, posted}
use Rattle.slot_histories.specs.Slots.{is_done_before}
use Rattle.islip_rounds.specs.Numbers.{numbers_of}
use Rattle.slot_histories.specs.Answers.{JournalSlot, journal_of}

-- a setup within the limits of a board
pub record IsSetup (s : Setup) : Type 0 where
  pub ports_some : 0 < s.ports
  pub ports_few : s.ports ≤ MAX_PORTS
  pub rounds_some : 0 < s.rounds
  pub rounds_few : s.rounds ≤ MAX_ROUNDS
  pub slots_some : 0 < s.max_slots
  pub slots_few : s.max_slots ≤ 262145
  pub slots_halved : 32 < s.ports → s.max_slots ≤ 131073

-- A board: what it was made for, and all that has happened.
pub record BoardValue : Type 0 where
  pub setup : Setup
  pub events : List Event

-- the same board with an event more
abbrev pub with_event : BoardValue → Event → BoardValue
with_event board event = record { setup = board.setup; events = board.events ++ event ∷ [] }

-- where card i stands
abbrev pub book_of : BoardValue → ℕ → CardBook
book_of board i = record {
  card = i;
  slot = takes_of i board.events;
  posted = nat_lt (takes_of i board.events) (length (posts_of i board.events));
  done = is_done_before board.setup.ports (posted board.events) (takes_of i board.events);
}

-- these are the cards that have posted the slot that is decided next
abbrev pub HavePosted : Setup → List Event → ℕ → Type 0
HavePosted s events ports = (i : ℕ) → Has ports i ↔ ((i < s.ports) × (length (posts_of i events) ≡ decides events + 1))

-- each card has taken a slot that is done
abbrev pub IsFinished : BoardValue → Type 0
IsFinished board = (i : ℕ) → i < board.setup.ports → is_done_before board.setup.ports (posted board.events) (takes_of i board.events) ≡ true

-- A journal: the setup of its board, the decided slots, and how many events there were.
pub record JournalValue : Type 0 where
  pub setup : Setup
  pub slots : List JournalSlot
  pub events : ℕ

-- the journal of a board
abbrev pub board_journal : BoardValue → JournalValue
board_journal board = record {
  setup = board.setup;
  slots = journal_of board.setup board.events;
  events = length board.events;
}

-- a slot of which nothing is known
abbrev pub no_slot : JournalSlot
no_slot = record { posts = []; matched = []; numbers = numbers_of [] }
