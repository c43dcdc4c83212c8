-- Rows of unicast of level 0 alone, and what a change of one of them does.
use Rattle.std.specs.Prelude.{◌≡◌, ◌≢◌, ℕ, ◌<◌, ◌≤◌, ◌↔◌, ◌⊎◌, List, length, slice_set}
use Rattle.rotating_pick.specs.PortSets.{Has}
use Rattle.rotating_pick.specs.declared.kinds.Kind.TheVariants.{Uni}
use Rattle.rotating_pick.specs.declared.limits.TheConstants.{MAX_PORTS}
use Rattle.slot_match.specs.declared.rows.Row.{Row}
use Rattle.slot_match.specs.Rows.{Names, row_of}
use Rattle.eslip_rounds.specs.OneLevel.{AreUnicastOf}
use Rattle.eslip_rounds.specs.ColumnSteps.{IsKeptSet}

-- the rows, where the input asks for these outputs in place of those that it asked for
abbrev pub rows_asking : List Row → ℕ → ℕ → List Row
rows_asking rows input outputs =
    slice_set rows input (record (row_of rows input) { uni = slice_set (row_of rows input).uni 0 outputs })

-- the rows, where the input asks for the output too
abbrev pub AsksToo : List Row → List Row → ℕ → ℕ → Type 0
AsksToo old new input output =
    (outputs : ℕ) × (new ≡ rows_asking old input outputs) × ((j : ℕ) → Has outputs j ↔ ((j ≡ output) ⊎ Names (row_of old input) 0 Uni j))

-- the rows, where the input asks for the output no more
abbrev pub AsksNoMore : List Row → List Row → ℕ → ℕ → Type 0
AsksNoMore old new input output =
    (outputs : ℕ) × (new ≡ rows_asking old input outputs) × ((j : ℕ) → Has outputs j ↔ ((j ≢ output) × Names (row_of old input) 0 Uni j))

-- the input asks for the output
abbrev pub IsAsked : List Row → ℕ → ℕ → Type 0
IsAsked rows i j = (i < length rows) × Names (row_of rows i) 0 Uni j

-- these are the inputs that ask for the output
abbrev pub AreAsking : List Row → ℕ → ℕ → Type 0
AreAsking rows j inputs = (i : ℕ) → Has inputs i ↔ IsAsked rows i j

-- rows of at most 64 inputs, which name unicast of level 0 alone, with their columns and the outputs that they name
pub record AreKept (rows : List Row) (columns : List ℕ) (asked : ℕ) : Type 0 where
  pub size : length rows ≤ MAX_PORTS
  pub levels : (i : ℕ) → i < length rows → 0 < length (row_of rows i).uni
  pub unicast : AreUnicastOf 0 rows
  pub set : IsKeptSet (length rows) rows 0 columns asked
