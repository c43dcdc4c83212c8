use Rattle.std.proofs.Common.{◌≡◌, length}
use Rattle.journal_check.specs.Lawful.{first_of, breaks}
use Rattle.journal_check.proofs.Firsts.{first_from}
use Rattle.journal_check.proofs.judge.first_to_break.Given as goal

abbrev pub invariant-loop-i : goal.invariant-loop-i
invariant-loop-i l = first_of (length l.rows) (breaks (length l.rows) l.matched l.before l.rows) ≡ first_from l.i (length l.rows)
    (breaks (length l.rows) l.matched l.before l.rows)
