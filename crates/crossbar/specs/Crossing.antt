-- What crosses to the outputs in a slot. The deposits are a list: for each input a cell, or none.
use Rattle.std.specs.Prelude.{◌≡◌, ℕ, ◌⊎◌, List, Option, None, Some, replicate, slice_index_or}
use Rattle.rotating_pick.specs.declared.kinds.Kind.{Kind}
use Rattle.cell_cutter.specs.declared.cell.Cell.{Cell}
use Rattle.slot_match.specs.declared.matching.Fed.{Fed}
use Rattle.slot_match.specs.Matches.{fed_of, Serves, IsFreeOutput}

-- none of n inputs has deposited a cell
abbrev pub nothing_deposited : ℕ → List (Option Cell)
nothing_deposited n = replicate n None

-- what input i has deposited
abbrev pub deposit_of : List (Option Cell) → ℕ → Option Cell
deposit_of deposits i = slice_index_or deposits i None

-- what comes of the input that feeds an output: its deposit
abbrev pub deposit_by : List (Option Cell) → Option Fed → Option Cell
deposit_by deposits None = None
deposit_by deposits (Some fed) = deposit_of deposits fed.input

-- the cell that crosses to output j: the deposit of the input that feeds it
abbrev pub fetched : List (Option Fed) → List (Option Cell) → ℕ → Option Cell
fetched matched deposits j = deposit_by deposits (fed_of matched j)

-- nothing crosses to output j: no input feeds it, or the one that does has deposited none
abbrev pub NothingCrosses : List (Option Fed) → List (Option Cell) → ℕ → Type 0
NothingCrosses matched deposits j =
    IsFreeOutput matched j ⊎ ((i level : ℕ) × (kind : Kind) × Serves matched i j level kind × (deposit_of deposits i ≡ None))
