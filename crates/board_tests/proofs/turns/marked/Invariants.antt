use Rattle.std.proofs.Common.{◌≡◌}
use Rattle.board_tests.proofs.turns.marked.Given as goal

abbrev pub invariant-loop : goal.invariant-loop
invariant-loop l = record {
  seat : l.seat.turn ≡ l.turn;
  number : l.seat.number ≡ l.number;
}
