-- What a slot serves a card, and the cell that crosses to it, against what was posted.
use Rattle.std.specs.Prelude.{◌≡◌, ℕ, ◌<◌}
use Rattle.rotating_pick.specs.PortSets.{Has}
use Rattle.rotating_pick.specs.declared.kinds.Kind.TheVariants.{Uni}
use Rattle.rotating_pick.specs.declared.limits.TheConstants.{LEVELS}
use Rattle.slot_match.specs.declared.rows.Row.{Row}
use Rattle.slot_match.specs.declared.matching.Fed.{Fed}
use Rattle.slot_match.specs.declared.matching.Served.{Served}
use Rattle.slot_match.specs.Rows.{Names}
use Rattle.cell_cutter.specs.declared.cell.Cell.{Cell}
use Rattle.cell_cutter.specs.Cells.{IsCellForm}

-- The part is one of this row: it has an output, all its outputs are in the row's set of its level and kind,
-- and for unicast there is one.
pub record IsPartOf (row : Row) (served : Served) : Type 0 where
  pub some : (j : ℕ) × Has served.outputs j
  pub named : (j : ℕ) → Has served.outputs j → Names row served.level served.kind j
  pub one : served.kind ≡ Uni → (j k : ℕ) → Has served.outputs j → Has served.outputs k → j ≡ k
  pub level : served.level < LEVELS

-- The cell has the form of a cell, and is of the input, level and kind that fed the output.
pub record IsCellOf (fed : Fed) (cell : Cell) : Type 0 where
  pub form : IsCellForm cell
  pub input : cell.input ≡ fed.input
  pub level : cell.level ≡ fed.level
  pub kind : cell.kind ≡ fed.kind
