use Rattle.std.proofs.Common.{ℕ, ◌<◌, ◌↔◌}
use Rattle.rotating_pick.specs.PortSets.{Has}
use Rattle.rotating_pick.specs.declared.kinds.Kind.{Kind}
use Rattle.slot_match.specs.Rows.{Names}
use Rattle.slot_match.proofs.rows.Row.named.Given as goal

abbrev pub invariant-loop-level : goal.invariant-loop-level
invariant-loop-level l = (j : ℕ) → Has l.named j ↔ ((m : ℕ) × (kind : Kind) × (m < l.level) × Names l.self m kind j)
