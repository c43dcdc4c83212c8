use Rattle.std.proofs.Common.{ℕ, ◌<◌}
use Rattle.slot_match.specs.Keeping.{KeepsLevel, Gives}
use Rattle.slot_match.proofs.rows.Row.keeps.Given as goal

abbrev pub invariant-loop-level : goal.invariant-loop-level
invariant-loop-level l = (m : ℕ) → m < l.level → KeepsLevel (Gives l.served) l.old l.self m
