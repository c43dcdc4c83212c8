-- What a seat tells of its card, and what each call makes of the seat.
use Rattle.std.specs.Prelude.{◌≡◌, ◌↔◌, ◌+◌, ◌<◌}
use Rattle.crossbar.specs.declared.cards.Taken.{Taken}
use Rattle.slot_histories.specs.declared.events.Event.{Event}
use Rattle.slot_histories.specs.Legal.{IsLegal}
use Rattle.slot_histories.specs.Columns.{IsTold}
use Rattle.turn_lock.specs.Seats.{SeatValue}
use Rattle.slot_board.specs.Seats.{column_at, setup_at, events_seen, slot_of, IsPosted, is_done, refusals}
use Rattle.slot_board.specs.Columns.{IsBoard}

-- The seat is one of a board's, what it has seen is legal there, and its column tells all of its card.
pub record IsSeat (seat : SeatValue Event) : Type 0 where
  pub board : IsBoard seat.turn
  pub card_in : seat.number < (setup_at seat).ports
  pub legal : IsLegal (setup_at seat) (events_seen seat)
  pub told : IsTold (setup_at seat) seat.number (events_seen seat) (column_at seat)

-- ---- what a call makes of the seat

-- the card has posted its slot, with no refused try more
pub record AfterPost (old new : SeatValue Event) : Type 0 where
  pub slot : slot_of new ≡ slot_of old
  pub posted : IsPosted new
  pub done : is_done new ≡ is_done old
  pub tries : refusals new ≡ refusals old

-- the card took its slot, with no refused try more
pub record AfterTaking (taken : Taken) (old new : SeatValue Event) : Type 0 where
  pub own : taken.slot ≡ slot_of old
  pub slot : slot_of new ≡ slot_of old + 1
  pub free : IsPosted new → ⊥
  pub done : is_done new ≡ taken.done
  pub tries : refusals new ≡ refusals old

-- all of the card is as before, with one refused try more
pub record AfterRefusal (old new : SeatValue Event) : Type 0 where
  pub column : column_at new ≡ column_at old
  pub slot : slot_of new ≡ slot_of old
  pub posted : IsPosted new ↔ IsPosted old
  pub done : is_done new ≡ is_done old
  pub tries : refusals new ≡ refusals old + 1
