use Rattle.std.proofs.Common.{ℕ, ◌<◌, ◌↔◌}
use Rattle.rotating_pick.specs.declared.kinds.Kind.{Kind}
use Rattle.slot_match.specs.Rows.{IsOfLevels, Names, row_of}
use Rattle.scheduler_c.proofs.rows.name_only_ports.Given as goal

abbrev pub invariant-loop-row : goal.invariant-loop-row
invariant-loop-row l = record {
  named : (level j : ℕ) (kind : Kind) → Names l.named level kind j ↔ ((i : ℕ) × (i < l.row-index) × Names (row_of l.rows i) level kind j);
  levels : (i : ℕ) → i < l.row-index → IsOfLevels (row_of l.rows i);
}
