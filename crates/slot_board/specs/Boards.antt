-- The end of a board that cards shared.
use Rattle.std.specs.Prelude.{◌≡◌, ◌⊎◌, ℕ, ◌+◌, ◌-◌, ◌^◌, ◌<◌, ◌≤◌, min, List, [], ◌∷◌, Some, map, length, slice_get}
use Rattle.std.specs.List.{filter}
use Rattle.slot_histories.specs.declared.events.Event.{Event}
use Rattle.slot_histories.specs.Legal.{IsLegal}
use Rattle.turn_lock.specs.declared.history.TurnOf.{TurnOf}
use Rattle.turn_lock.specs.Histories.{IsPrefixOf, entries_of, turns_of, IsAllowed, IsBelow}
use Rattle.turn_lock.specs.Seats.{TurnValue, SeatValue}
use Rattle.slot_board.specs.States.{StateValue}
use Rattle.slot_board.specs.Turns.{setup_of, MayAdd}
use Rattle.slot_board.specs.Seats.{refusals, is_due}

-- the least of these numbers, and the last value of a u64 where none is less
abbrev pub least_of : List ℕ → ℕ
least_of [] = 2 ^ 64 - 1
least_of (count ∷ counts) = min count (least_of counts)

-- the least of the due cards' refused tries
abbrev pub least_refused : List (SeatValue Event) → ℕ
least_refused seats = least_of (map refusals (filter is_due seats))

-- The board's events are those of one history and legal, and each seat's seen turns begin it, with no further turn of the seat.
-- A seat that found the board busy since its last turn was overtaken: the history goes on beyond what it had seen, or
-- is at its last length.
pub record IsClosed (turn : TurnValue Event) (seats : List (SeatValue Event)) (board : StateValue) : Type 0 where
  pub history : List (TurnOf Event)
  pub setup : board.setup ≡ setup_of turn.numbers
  pub events : board.events ≡ entries_of history
  pub legal : IsLegal board.setup board.events
  pub allowed : IsAllowed MayAdd history
  pub in_range : IsBelow turn.seats history
  pub seen : (i : ℕ) (seat : SeatValue Event) → slice_get seats i ≡ Some seat → IsPrefixOf seat.seen history
  pub own : (i : ℕ) (seat : SeatValue Event) → slice_get seats i ≡ Some seat → turns_of i history ≡ turns_of i seat.seen
  pub overtaken : (i : ℕ) (seat : SeatValue Event) → slice_get seats i ≡ Some seat → 0 < seat.since → (length seat.seen < length history)
      ⊎ (2 ^ 64 ≤ length history + 1)
  pub refused : board.refused ≡ least_refused seats
