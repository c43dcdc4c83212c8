use Rattle.std.proofs.Common.{◌≡◌, length}
use Rattle.journal_check.specs.Lawful.{first_of, lacks_more}
use Rattle.journal_check.proofs.Firsts.{first_from}
use Rattle.journal_check.proofs.judge.first_without_more.Given as goal

abbrev pub invariant-loop-i : goal.invariant-loop-i
invariant-loop-i l = first_of (length l.rows) (lacks_more l.rows l.more) ≡ first_from l.i (length l.rows) (lacks_more l.rows l.more)
