-- What is put together at an output, over the cells that crossed to it.
use Rattle.std.specs.Prelude.{ℕ, ◌==◌, ◌&&◌, Bool, List, [], ◌∷◌, ◌++◌, if◌then◌else◌, filter}
use Rattle.std.specs.List.{flat_map}
use Rattle.std.specs.Option.{option_to_list}
use Rattle.rotating_pick.specs.declared.kinds.Kind.{Kind}
use Rattle.eslip_rounds.specs.Decisions.{is_kind}
use Rattle.cell_cutter.specs.declared.cell.Cell.{Cell}
use Rattle.cell_cutter.specs.Cells.{used_bytes}
use Rattle.reassembly.specs.Cutting.{rest_after, joined}
use Rattle.crossbar.specs.declared.cards.Taken.{Taken}

-- the cells of one flow, in order: those of an input, a level and a kind
abbrev pub is_of_flow : ℕ → ℕ → Kind → Cell → Bool
is_of_flow input level kind cell = (cell.input == input) && (cell.level == level) && is_kind cell.kind kind

abbrev pub flow_cells : ℕ → ℕ → Kind → List Cell → List Cell
flow_cells input level kind cells = filter (is_of_flow input level kind) cells

-- the message up to a cell that comes after these: of its flow's cells since the last last one, and of the cell, the
-- used bytes joined
abbrev pub message_with : List Cell → Cell → List ℕ
message_with before cell = joined (rest_after [] (flow_cells cell.input cell.level cell.kind before)) ++ used_bytes cell

-- what a cell that comes after these ends: its message where it is a last one
abbrev pub ended_by : List Cell → Cell → List (List ℕ)
ended_by before cell = if cell.last then message_with before cell ∷ [] else []

-- the messages of some cells that come after others, in the order of their last cells
abbrev pub messages_after : List Cell → List Cell → List (List ℕ)
messages_after before [] = []
messages_after before (cell ∷ cells) = ended_by before cell ++ messages_after (before ++ cell ∷ []) cells

-- the messages of the cells that crossed to an output
abbrev pub delivered : List Cell → List (List ℕ)
delivered cells = messages_after [] cells

-- the cells that a card took
abbrev pub cells_taken : List Taken → List Cell
cells_taken takings = flat_map (λ taken. option_to_list taken.cell) takings

-- the messages of one flow among those of some cells that come after others
abbrev pub messages_from : ℕ → ℕ → Kind → List Cell → List Cell → List (List ℕ)
messages_from input level kind before [] = []
messages_from input level kind before (cell ∷ cells) =
    (if is_of_flow input level kind cell then ended_by before cell else []) ++ messages_from input level kind (before ++ cell ∷ []) cells
