use Rattle.slot_match.specs.Matches.{IsMatch}
use Rattle.board_tests.proofs.crossings.matched.Given as goal

abbrev pub invariant-loop-input : goal.invariant-loop-input
invariant-loop-input g l = IsMatch 4 l.matched
