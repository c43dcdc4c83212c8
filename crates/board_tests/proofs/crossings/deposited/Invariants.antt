use Rattle.std.proofs.Common.{◌≡◌, length}
use Rattle.board_tests.proofs.crossings.deposited.Given as goal

abbrev pub invariant-loop-deposit : goal.invariant-loop-deposit
invariant-loop-deposit g l = length l.crossbar ≡ 4
