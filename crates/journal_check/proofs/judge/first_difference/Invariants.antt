use Rattle.std.proofs.Common.{◌≡◌, length}
use Rattle.journal_check.specs.Lawful.{first_of, differs}
use Rattle.journal_check.proofs.Firsts.{first_from}
use Rattle.journal_check.proofs.judge.first_difference.Given as goal

abbrev pub invariant-loop-j : goal.invariant-loop-j
invariant-loop-j l = first_of (length l.matched) (differs l.fed l.matched) ≡ first_from l.j (length l.matched) (differs l.fed l.matched)
