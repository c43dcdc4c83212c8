use Rattle.std.proofs.Common.{◌<◌, subst, arith}
use Rattle.slot_board.specs.Seats.{setup_at}
use Rattle.slot_board.specs.Calls.{IsSeat}
use Rattle.slot_board.proofs.AfterCalls.{IsSeat-kept}
use Rattle.slot_board.proofs.seat.CardSeat.legal.Goals as goal

pub returns : goal.returns
returns c =
    let s = c.self.inside in
    let kept = c.self.invariant in
    let inside : s.seat.number < (setup_at s.seat).ports =
    let below = kept.card_in in let ports = kept.ports_are in let number = kept.card_is in omega arith in
    subst IsSeat c.self.view_is (IsSeat-kept s.seat kept.board inside kept.column.legal)
