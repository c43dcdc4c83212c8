use Rattle.std.proofs.Common.{◌≡◌}
use Rattle.board_tests.proofs.states.builders.make_all.Given as goal

abbrev pub invariant-loop-step : goal.invariant-loop-step
invariant-loop-step g l = l.board.setup ≡ l.fn.board.setup
