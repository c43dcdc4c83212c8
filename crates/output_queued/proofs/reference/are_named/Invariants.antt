use Rattle.std.proofs.Common.{ℕ, ◌<◌}
use Rattle.rotating_pick.specs.declared.kinds.Kind.{Kind}
use Rattle.slot_match.specs.Matches.{Serves}
use Rattle.slot_match.specs.Rows.{Names, row_of as row_in}
use Rattle.output_queued.proofs.reference.are_named.Given as goal

abbrev pub invariant-loop-output : goal.invariant-loop-output
invariant-loop-output l = (i j level : ℕ) (kind : Kind) → j < l.output → Serves l.matched i j level kind → Names (row_in l.rows i) level kind j
