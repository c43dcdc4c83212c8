use Rattle.std.proofs.Common.{◌∙◌, sym, ap}
use Rattle.slot_board.specs.Turns.{numbers_of}
use Rattle.slot_board.proofs.NewSeats.{IsBoard-new, IsNewCard-new}
use Rattle.slot_board.proofs.board.Board.make.Goals as goal

pub card_seats-requires-clause-new : goal.card_seats-requires-clause-new
card_seats-requires-clause-new c =
    let made = c.in_ok-turn in
    let boxed = c.in_ok-boxed.ensures.ok in
    let board = IsBoard-new made.turn c.in_ok-state.state c.legal.ensures.setup (ap (λ s. s.events) c.in_ok-state.ensures)
    (made.ensures.value.0 ∙ ap (λ s. s.events) boxed) (made.ensures.value.1 ∙ ap (λ s. numbers_of s.setup) boxed)
    (made.ensures.count ∙ sym (ap (λ s. s.setup.ports) c.in_ok-state.ensures)) in
    IsNewCard-new made.turn c.args.n made.turn_seats.items board made.ensures.count made.ensures.seats
