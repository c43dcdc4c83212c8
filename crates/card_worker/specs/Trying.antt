-- What tries make of members.
use Rattle.std.specs.Prelude.{◌≡◌, ◌+◌, ℕ, length}
use Rattle.slot_histories.specs.declared.events.Event.{Event}
use Rattle.turn_lock.specs.Seats.{TurnValue}
use Rattle.slot_board.specs.Seats.{column_at, setup_at, refusals}
use Rattle.slot_board.specs.Calls.{IsSeat}
use Rattle.card_worker.specs.declared.hands.Member.{Member}
use Rattle.card_worker.specs.Agreeing.{Agrees}

-- the member's seat is of this board, and its hand agrees with the seat's column
pub record IsMember (board : TurnValue Event) (member : Member) : Type 0 where
  pub turn : member.seat.turn ≡ board
  pub agrees : Agrees member.hand (setup_at member.seat) member.seat.number (column_at member.seat)

-- and the seat tells of its card
pub record IsSound (board : TurnValue Event) (member : Member) : Type 0 where
  pub agrees : IsMember board member
  pub told : IsSeat member.seat

-- how many posts and takes the member made
abbrev pub acts_of : Member → ℕ
acts_of member = length (column_at member.seat).posts + length (column_at member.seat).takings

-- how many tries it made: those, and the tries that were refused
abbrev pub tries_of : Member → ℕ
tries_of member = acts_of member + refusals member.seat
