use Rattle.std.proofs.Common.{ℕ, ◌<◌}
use Rattle.pointer_state.specs.Places.{ArePointing}
use Rattle.pointer_state.specs.CallerTables.{places_from}
use Rattle.pointer_state.proofs.caller_tables.are_pointing.Given as goal

abbrev pub invariant-loop-level : goal.invariant-loop-level
invariant-loop-level l = (level : ℕ) → level < l.level → ArePointing l.n level (places_from l.n l.tables)
