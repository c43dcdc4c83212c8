use Rattle.std.proofs.Common.{◌≡◌}
use Rattle.board_tests.proofs.boards.threads.drive.Given as goal

abbrev pub invariant-loop : goal.invariant-loop
invariant-loop l = record {
  turn : l.seat.turn ≡ l.fn.seat.turn;
  number : l.seat.number ≡ l.fn.seat.number;
}
