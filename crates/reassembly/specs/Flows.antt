-- What stands of each flow at one output. A flow is the cells of one input, level and kind.
use Rattle.std.specs.Prelude.{◌≡◌, ℕ, ◌+◌, ◌*◌, ◌<◌, ◌≤◌, List, [], ◌++◌, length, slice_index_or, slice_set, if◌then◌else◌}
use Rattle.rotating_pick.specs.declared.kinds.Kind.{Kind}
use Rattle.cell_cutter.specs.declared.cell.Cell.{Cell}
use Rattle.cell_cutter.specs.Kinds.{kind_byte}
use Rattle.cell_cutter.specs.Cells.{IsCellForm, used_bytes}

-- one flow: the most bytes that a message of it may have, those of its message that is not whole yet, and the number of its next cell
pub record Flow : Type 0 where
  pub size : ℕ
  pub bytes : List ℕ
  pub next : ℕ

-- the flows of an output's inputs, eight an input
pub record Flows : Type 0 where
  pub ports : ℕ
  pub flows : List Flow

-- a flow of which nothing stands
abbrev pub fresh : ℕ → Flow
fresh size = record { size = size; bytes = []; next = 0 }

-- the place of a flow among all
abbrev pub place_of : ℕ → ℕ → Kind → ℕ
place_of input level kind = 8 * input + 2 * level + kind_byte kind

-- the place of a cell's flow
abbrev pub place_of_cell : Cell → ℕ
place_of_cell cell = place_of cell.input cell.level cell.kind

-- the flow of a cell
abbrev pub flow_of : Flows → Cell → Flow
flow_of all cell = slice_index_or all.flows (place_of_cell cell) (fresh 0)

-- a cell may be put: it is of the form, of one of the inputs, the next of its flow, and its bytes have room
pub record Fits (all : Flows) (cell : Cell) : Type 0 where
  pub form : IsCellForm cell
  pub input : cell.input < all.ports
  pub next : cell.number ≡ (flow_of all cell).next
  pub room : length (flow_of all cell).bytes + cell.used ≤ (flow_of all cell).size

-- the bytes of a flow's message up to this cell
abbrev pub bytes_with : Flow → Cell → List ℕ
bytes_with flow cell = flow.bytes ++ used_bytes cell

-- a flow after its cell: a last one ends the message, and the flow begins anew
abbrev pub with_cell : Flow → Cell → Flow
with_cell flow cell =
    if cell.last then fresh flow.size else record { size = flow.size; bytes = bytes_with flow cell; next = cell.number + 1 }

-- all flows after a cell: that of the cell changes, the others stay
abbrev pub after_cell : Flows → Cell → Flows
after_cell all cell = record {
  ports = all.ports;
  flows = slice_set all.flows (place_of_cell cell) (with_cell (flow_of all cell) cell);
}
