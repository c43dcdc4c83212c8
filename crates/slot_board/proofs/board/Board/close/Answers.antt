use Rattle.std.proofs.Common.{◌≡◌, ◌∙◌, ◌++◌, ℕ, Some, sym, ap, subst}
use Rattle.std.specs.Prelude.{slice_get}
use Rattle.slot_histories.specs.declared.events.Event.{Event}
use Rattle.slot_histories.specs.Columns.{column_of}
use Rattle.turn_lock.specs.Histories.{entries_of, IsBelow}
use Rattle.turn_lock.specs.Seats.{TurnValue, SeatValue}
use Rattle.slot_board.specs.Turns.{setup_of}
use Rattle.slot_board.specs.Boards.{least_refused}
use Rattle.slot_board.proofs.SeatColumns.{column_of-history}
use Rattle.slot_board.proofs.board.Board.close.Goals as goal

pub returns-clause-closed : goal.returns-clause-closed
returns-clause-closed c =
    let whole = c.close-state.ensures in
    let there : (i : ℕ) (seat : SeatValue Event) → slice_get c.args.seats.items i ≡ Some seat → slice_get c.turn_seats.result.items i ≡ Some seat =
    λ i seat at. ap (λ seats. slice_get seats i) c.turn_seats.ensures ∙ at in
    record {
      history = whole.history;
      setup = ap (λ board. board.setup) c.into_inner-state.ensures ∙ ap setup_of whole.numbers_are ∙ ap (λ turn. setup_of turn.numbers) c.self.view_is;
      events = ap (λ board. board.events) c.into_inner-state.ensures ∙ whole.entries_are
          ∙ ap (λ first. first ++ entries_of whole.history) c.self.invariant.0.first;
      legal = c.legal.ensures.legal;
      allowed = whole.allowed;
      in_range = subst (λ (turn : TurnValue Event). IsBelow turn.seats whole.history) c.self.view_is whole.in_range;
      seen = λ i seat at. whole.seen i seat (there i seat at);
      own = λ i seat at. whole.own i seat (there i seat at);
      overtaken = λ i seat at. whole.overtaken i seat (there i seat at);
      refused = c.least_refused-least.ensures ∙ ap least_refused c.deref.ensures.value;
    }

pub returns-clause-columns : goal.returns-clause-columns
returns-clause-columns c = λ i seat at.
    let whole = c.close-state.ensures in
    let there : slice_get c.turn_seats.result.items i ≡ Some seat = ap (λ seats. slice_get seats i) c.turn_seats.ensures ∙ at in
    let setup = ap setup_of whole.numbers_are ∙ ap (λ turn. setup_of turn.numbers) (c.self.view_is ∙ sym (c.requires.turns i seat at)) in
    let events = whole.entries_are ∙ ap (λ first. first ++ entries_of whole.history) c.self.invariant.0.first in
    ap (λ board. column_of board.setup i board.events) c.into_inner-state.ensures
    ∙ column_of-history whole.history whole.allowed i seat (whole.seen i seat there)
    (whole.own i seat there) c.close-state.result.state.value.setup c.close-state.result.state.value.events setup events (c.requires.numbers i seat at)
