-- A flow's cells, cut after each last cell, are messages.
use Rattle.std.specs.Prelude.{◌≡◌, ℕ, List, [], ◌∷◌, ◌++◌, map, length, if◌then◌else◌}
use Rattle.std.specs.List.{flat_map}
use Rattle.cell_cutter.specs.declared.cell.Cell.{Cell}
use Rattle.cell_cutter.specs.Cells.{used_bytes}
use Rattle.reassembly.specs.Flows.{Flow}

-- the whole pieces, each ended by a last cell, where some cells were begun before
abbrev pub pieces_after : List Cell → List Cell → List (List Cell)
pieces_after before [] = []
pieces_after before (cell ∷ cells) =
    if cell.last then (before ++ cell ∷ []) ∷ pieces_after [] cells else pieces_after (before ++ cell ∷ []) cells

-- the cells after the last one that ends a message, where some cells were begun before
abbrev pub rest_after : List Cell → List Cell → List Cell
rest_after before [] = before
rest_after before (cell ∷ cells) = if cell.last then rest_after [] cells else rest_after (before ++ cell ∷ []) cells

-- the used bytes of cells, joined
abbrev pub joined : List Cell → List ℕ
joined cells = flat_map used_bytes cells

-- the messages of a flow's cells: the used bytes of each whole piece joined
abbrev pub messages_of : List Cell → List (List ℕ)
messages_of cells = map joined (pieces_after [] cells)

-- what stands of a flow after its cells: the bytes of the message that is not whole yet, and how many cells it has
pub record Stands (flow : Flow) (cells : List Cell) : Type 0 where
  pub bytes : flow.bytes ≡ joined (rest_after [] cells)
  pub next : flow.next ≡ length (rest_after [] cells)
