-- From the columns of seats to those of the board's state.
use Rattle.std.proofs.Common.{◌≡◌, ◌∙◌, ℕ, ◌<◌, List, [], length, get_or, sym, ap, subst, arith}
use Rattle.std.specs.Prelude.{Some, slice_get}
use Rattle.std.proofs.lemmas.Option.{slice_get-get_or, slice_get_within}
use Rattle.slot_histories.specs.declared.events.Event.{Event}
use Rattle.turn_lock.specs.Seats.{TurnValue, SeatValue, AreSeats}
use Rattle.slot_board.specs.States.{StateValue}
use Rattle.slot_board.specs.Turns.{setup_of}
use Rattle.slot_board.specs.Seats.{setup_at, column_at}
use Rattle.slot_histories.specs.Columns.{column_of}
use Rattle.slot_board.specs.Columns.{IsBoard}
use Rattle.card_worker.specs.declared.hands.Hand.{Hand}
use Rattle.card_worker.specs.Agreeing.{Agrees}
use Rattle.card_worker.specs.Trying.{IsMember}
use Rattle.card_worker.specs.Alone.{AreHandsOf}

module _ (turn : TurnValue Event) (seats : List (SeatValue Event)) (hands : List Hand) (board : IsBoard turn) (are : AreSeats turn seats)
    (count : length hands ≡ length seats) (members : (i : ℕ) (hand : Hand) (seat : SeatValue Event) → slice_get hands i ≡ Some hand
    → slice_get seats i ≡ Some seat → IsMember turn (record { hand = hand; seat = seat })) where
  pub AreHandsOf-closed : (state : StateValue) → state.setup ≡ setup_of turn.numbers
      → ((i : ℕ) (seat : SeatValue Event) → slice_get seats i ≡ Some seat → column_of state.setup i state.events ≡ column_at seat) → AreHandsOf hands state
  AreHandsOf-closed state setup columns =
      record {
        count = count ∙ are.count ∙ board.seats ∙ ap (λ s. s.ports) (sym setup);
        each = λ i hand at.
            let within : i < length hands = slice_get_within hands i hand at in
            let some : SeatValue Event = get_or seats i (record { turn = turn; number = 0; seen = []; finds = 0; since = 0 }) in
            let seat_at : slice_get seats i ≡ Some some =
            slice_get-get_or seats i (record { turn = turn; number = 0; seen = []; finds = 0; since = 0 }) (omega arith) in
            let member = members i hand some at seat_at in
            let same : setup_at some ≡ state.setup = ap (λ t. setup_of t.numbers) (are.turns i some seat_at) ∙ sym setup in
            let by_column : Agrees hand (setup_at some) some.number (column_of state.setup i state.events) =
            subst (Agrees hand (setup_at some) some.number) (sym (columns i some seat_at)) member.agrees in
            let by_setup : Agrees hand state.setup some.number (column_of state.setup i state.events) =
            subst (λ s. Agrees hand s some.number (column_of state.setup i state.events)) same by_column in
            subst (λ k. Agrees hand state.setup k (column_of state.setup i state.events)) (are.numbers i some seat_at) by_setup;
      }
