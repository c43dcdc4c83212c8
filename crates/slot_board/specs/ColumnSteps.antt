-- How the seats of a board's cards stand in its history.
use Rattle.std.specs.Prelude.{◌≡◌, ℕ, ◌-◌, ◌^◌, ◌<◌, ◌≤◌, min, Bool, List, [], length, Option}
use Rattle.slot_match.specs.declared.rows.Row.{Row}
use Rattle.slot_match.specs.declared.matching.Served.{Served}
use Rattle.slot_histories.specs.declared.events.Event.{Event}
use Rattle.slot_histories.specs.Events.{Setup, posts_of, takes_of, posted}
use Rattle.slot_histories.specs.Slots.{is_done_before, row_before, served_before}
use Rattle.slot_histories.specs.Legal.{IsLegal}
use Rattle.turn_lock.specs.Seats.{SeatValue, new_seat}
use Rattle.slot_board.specs.Seats.{setup_at, events_seen, refusals}
use Rattle.slot_board.specs.Columns.{slots_posted, IsBoard}

-- The events are legal, and these are the card's slot, whether it has posted it, whether it is done, the row of
-- its last post and what it was served last.
pub record IsColumn (s : Setup) (card slot : ℕ) (has_posted done : Bool) (last : Row) (served : Option Served) (events : List Event) : Type 0 where
  pub legal : IsLegal s events
  pub slot_is : slot ≡ takes_of card events
  pub posts_are : length (posts_of card events) ≡ slots_posted has_posted slot
  pub done_is : done ≡ is_done_before s.ports (posted events) slot
  pub last_is : last ≡ row_before (posted events) card (length (posts_of card events))
  pub served_is : served ≡ served_before s (posted events) card slot

-- the seat is one of a board, and this is kept of its card; the count stops at the last value of a u64
pub record IsCardSeat (seat : SeatValue Event) (ports card slot : ℕ) (has_posted done : Bool) (last : Row) (served : Option Served) (count : ℕ)
    (room : List (SeatValue Event)) (capacity : ℕ) : Type 0 where
  pub board : IsBoard seat.turn
  pub ports_are : ports ≡ (setup_at seat).ports
  pub card_is : card ≡ seat.number
  pub card_in : card < ports
  pub column : IsColumn (setup_at seat) card slot has_posted done last served (events_seen seat)
  pub count_is : count ≡ min (refusals seat) (2 ^ 64 - 1)
  -- there is an empty list in each seat, and that of the first has room for all seats of the turn lock
  pub empty : room ≡ []
  pub room_for_all : card ≡ 0 → ports ≤ capacity

-- the seat is that of card i, as the turn lock of a board of `ports` ports gives it
pub record IsNewCard (ports i : ℕ) (seat : SeatValue Event) : Type 0 where
  pub board : IsBoard seat.turn
  pub ports_are : ports ≡ (setup_at seat).ports
  pub card_in : i < ports
  pub new : seat ≡ new_seat seat.turn i
