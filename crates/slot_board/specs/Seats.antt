-- What a line card's seat has seen of its card, and what its calls make of it.
use Rattle.std.specs.Prelude.{◌≡◌, ℕ, ◌+◌, ◌-◌, ◌^◌, ◌<◌, ◌≤◌, ◌==◌, min, if◌then◌else◌, ◌&&◌, ◌||◌, not, nat_lt, Bool, List, [], ◌∷◌, ◌++◌, length, Option}
use Rattle.std.specs.List.{count_by}
use Rattle.slot_match.specs.declared.rows.Row.{Row}
use Rattle.slot_match.specs.declared.matching.Served.{Served}
use Rattle.crossbar.specs.declared.cards.Post.{Post as CardPost}
use Rattle.crossbar.specs.declared.cards.Taken.{Taken}
use Rattle.slot_histories.specs.declared.events.Event.{Event}
use Rattle.slot_histories.specs.declared.events.Event.TheVariants.{Take}
use Rattle.slot_histories.specs.Events.{Setup, posts_of, takes_of, decides, posted}
use Rattle.slot_histories.specs.Slots.{is_done_before, taken_at, row_before, served_before}
use Rattle.slot_histories.specs.Columns.{Column, column_of}
use Rattle.slot_histories.specs.Legal.{IsAccepted, IsLegal}
use Rattle.board_state.specs.Boards.{HavePosted}
use Rattle.turn_lock.specs.declared.history.TurnOf.{TurnOf}
use Rattle.turn_lock.specs.Histories.{entries_of, turns_of, IsAllowed, IsBelow}
use Rattle.turn_lock.specs.Seats.{SeatValue, busy, after_turn}
use Rattle.slot_board.specs.declared.waits.TakeWait.{TakeWait}
use Rattle.slot_board.specs.declared.waits.TakeWait.TheVariants.{Busy, NotYet}
use Rattle.slot_board.specs.Turns.{setup_of, MayAdd, post_entries}

-- the setup of the seat's board
abbrev pub setup_at : SeatValue Event → Setup
setup_at seat = setup_of seat.turn.numbers

-- the events that the seat has seen
abbrev pub events_seen : SeatValue Event → List Event
events_seen seat = entries_of seat.seen

-- the column of the seat's card in what it has seen
abbrev pub column_at : SeatValue Event → Column
column_at seat = column_of (setup_at seat) seat.number (events_seen seat)

-- the slot that the card has posted and not taken, or else the one that it posts next
abbrev pub slot_of : SeatValue Event → ℕ
slot_of seat = takes_of seat.number (events_seen seat)

-- the card has posted this slot
abbrev pub IsPosted : SeatValue Event → Type 0
IsPosted seat = slot_of seat < length (posts_of seat.number (events_seen seat))

-- whether the card has taken the last slot of the run
abbrev pub is_done : SeatValue Event → Bool
is_done seat = is_done_before (setup_at seat).ports (posted (events_seen seat)) (slot_of seat)

-- the row that the card posted for the slot before its slot
abbrev pub last_row : SeatValue Event → Row
last_row seat = row_before (posted (events_seen seat)) seat.number (slot_of seat)

-- what it was served there
abbrev pub last_served : SeatValue Event → Option Served
last_served seat = served_before (setup_at seat) (posted (events_seen seat)) seat.number (slot_of seat)

-- the post is accepted from the card for its slot
abbrev pub Accepts : SeatValue Event → CardPost → Type 0
Accepts seat post = IsAccepted (setup_at seat).ports seat.number (last_row seat) (last_served seat) post

-- ---- what a turn of the seat makes of it

-- the events before the seat's turn: those that it had seen, and those of the turns of others between
abbrev pub events_before : SeatValue Event → List (TurnOf Event) → List Event
events_before seat between = entries_of (seat.seen ++ between)

-- The seat had one turn, after what it had seen and some turns of other seats, with the entries that `adds` gives
-- of the events before. All that it has then seen is legal, and each turn in it has events of its own card alone.
pub record HasCardTurn (adds : List Event → List Event) (old new : SeatValue Event) (between : List (TurnOf Event)) : Type 0 where
  pub others : turns_of old.number between ≡ []
  pub turn : new ≡ after_turn old between (adds (events_before old between))
  pub legal : IsLegal (setup_at old) (events_seen new)
  pub allowed : IsAllowed MayAdd new.seen
  pub in_range : IsBelow old.turn.seats new.seen

-- the card posted, and decided the slot where its post was the last
pub record HasPosted (post : CardPost) (old new : SeatValue Event) : Type 0 where
  pub between : List (TurnOf Event)
  pub turn : HasCardTurn (λ events. post_entries (setup_at old) events old.number post) old new between

-- the card took its part of its slot, which all cards have posted, as the events before it give it
pub record HasTaken (taken : Taken) (old new : SeatValue Event) : Type 0 where
  pub between : List (TurnOf Event)
  pub turn : HasCardTurn (λ events. Take old.number ∷ []) old new between
  pub all_posted : (i : ℕ) → i < (setup_at old).ports → slot_of old < length (posts_of i (events_before old between))
  pub answer : taken ≡ taken_at (setup_at old) (posted (events_before old between)) old.number (takes_of old.number (events_before old between))

-- the seat had a turn, but the card's slot was not decided there, since some card had not posted it
pub record IsUndecided (ports : ℕ) (old new : SeatValue Event) : Type 0 where
  pub between : List (TurnOf Event)
  pub turn : HasCardTurn (λ events. []) old new between
  pub missing : (i : ℕ) × (i < (setup_at old).ports) × (length (posts_of i (events_before old between)) ≤ slot_of old)
  pub undecided : decides (events_before old between) ≤ slot_of old
  pub posted : HavePosted (setup_at old) (events_before old between) ports

-- why a card could not take, and what that makes of its seat
abbrev pub IsWait : TakeWait → SeatValue Event → SeatValue Event → Type 0
IsWait Busy old new = new ≡ busy old
IsWait (NotYet ports) old new = IsUndecided ports old new

-- ---- how often a seat was refused

-- whether the turn has no entries
abbrev pub is_idle : TurnOf Event → Bool
is_idle turn = length turn.entries == 0

-- the refused tries of a seat: its finds, and its own turns without entries
abbrev pub refusals : SeatValue Event → ℕ
refusals seat = seat.finds + count_by is_idle (turns_of seat.number seat.seen)

-- A card is due where it has posted its slot, or where it is not done and a slot is left.
abbrev pub is_due : SeatValue Event → Bool
is_due seat = nat_lt (slot_of seat) (length (posts_of seat.number (events_seen seat)))
    || (not (is_done seat) && nat_lt (slot_of seat) (setup_at seat).max_slots)

-- its refused tries as a u64 where the card is due, and the last value of a u64 where it is not
abbrev pub due_tries : SeatValue Event → ℕ
due_tries seat = if is_due seat then min (refusals seat) (2 ^ 64 - 1) else 2 ^ 64 - 1
