-- The seats that the turn lock of a new board gives.
use Rattle.std.proofs.Common.{◌≡◌, ◌∙◌, ℕ, ◌<◌, List, [], length, Some, refl, sym, ap, subst, arith}
use Rattle.std.specs.Prelude.{slice_get}
use Rattle.std.proofs.lemmas.Option.{slice_get_within}
use Rattle.slot_histories.specs.declared.events.Event.{Event}
use Rattle.turn_lock.specs.Seats.{TurnValue, SeatValue, AreNewSeats}
use Rattle.board_state.specs.Boards.{BoardValue, IsSetup}
use Rattle.slot_board.specs.Turns.{numbers_of, setup_of}
use Rattle.slot_board.specs.Columns.{IsBoard}
use Rattle.slot_board.specs.ColumnSteps.{IsNewCard}

-- a turn lock round the state of a board on which nothing has happened
pub IsBoard-new : (turn : TurnValue Event) (board : BoardValue) → IsSetup board.setup → board.events ≡ [] → turn.first ≡ board.events
    → turn.numbers ≡ numbers_of board.setup → turn.seats ≡ board.setup.ports → IsBoard turn
IsBoard-new turn board setup none first numbers seats =
    let same : setup_of turn.numbers ≡ board.setup = ap setup_of numbers in
    record {
      first = first ∙ none;
      numbers = numbers ∙ ap numbers_of (sym same);
      seats = seats ∙ ap (λ s. s.ports) (sym same);
      setup = subst IsSetup (sym same) setup;
    }

-- each of its seats is that of a card
pub IsNewCard-new : (turn : TurnValue Event) (ports : ℕ) (seats : List (SeatValue Event)) → IsBoard turn → turn.seats ≡ ports → AreNewSeats turn seats
    → (i : ℕ) (seat : SeatValue Event) → slice_get seats i ≡ Some seat → IsNewCard ports i seat
IsNewCard-new turn ports seats board count new i seat at =
    let within : i < length seats = slice_get_within seats i seat at in
    let all : length seats ≡ turn.seats = new.count in
    subst (λ s. IsNewCard ports i s) (sym (new.each i seat at))
    (record { board = board; ports_are = sym count ∙ board.seats; card_in = omega arith; new = refl })
