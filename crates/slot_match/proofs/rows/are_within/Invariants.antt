use Rattle.std.proofs.Common.{ℕ, ◌<◌}
use Rattle.slot_match.specs.Rows.{IsWithin, IsOfLevels, row_of}
use Rattle.slot_match.proofs.rows.are_within.Given as goal

abbrev pub invariant-loop-row : goal.invariant-loop-row
invariant-loop-row l = record {
  ports : (i : ℕ) → i < l.row-index → IsWithin l.n (row_of l.rows i);
  levels : (i : ℕ) → i < l.row-index → IsOfLevels (row_of l.rows i);
}
