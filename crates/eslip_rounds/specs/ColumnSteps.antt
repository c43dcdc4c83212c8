-- What columns that are kept hold, and what a change of one set of a row does to them.
use Rattle.std.specs.Prelude.{◌≡◌, ◌≢◌, ℕ, ◌<◌, ◌≤◌, ◌↔◌, ◌⊎◌, List, [], length, slice_index, slice_index_or, slice_set}
use Rattle.rotating_pick.specs.PortSets.{Has}
use Rattle.rotating_pick.specs.declared.kinds.Kind.{Kind}
use Rattle.rotating_pick.specs.declared.kinds.Kind.TheVariants.{Uni, Multi}
use Rattle.rotating_pick.specs.declared.limits.TheConstants.{MAX_PORTS}
use Rattle.slot_match.specs.declared.rows.Row.{Row}
use Rattle.slot_match.specs.Rows.{Names, row_of}
use Rattle.eslip_rounds.specs.declared.asks.Asks.{Asks}
use Rattle.eslip_rounds.specs.declared.ranks.TheConstants.{SETS}
use Rattle.eslip_rounds.specs.RankSteps.{level_at, kind_at}

-- the row with these outputs in the place of those that it names at the level with the kind
abbrev pub with_set : Row → ℕ → Kind → ℕ → Row
with_set row level Uni outputs = record { uni = slice_set row.uni level outputs; multi = row.multi }
with_set row level Multi outputs = record { uni = row.uni; multi = slice_set row.multi level outputs }

-- after it the input is in the columns of the outputs `new`, and all other inputs are where they were
abbrev pub IsTurned : ℕ → ℕ → List ℕ → List ℕ → Type 0
IsTurned input new before after = (i j : ℕ) → j < MAX_PORTS → Has (slice_index after j) i
    ↔ (((i ≡ input) × Has new j) ⊎ ((i ≢ input) × Has (slice_index before j) i))

-- these are the outputs whose column is not empty
abbrev pub AreOutputs : List ℕ → ℕ → Type 0
AreOutputs columns outputs = (j : ℕ) → Has outputs j ↔ (slice_index columns j ≢ 0)

-- the columns of one set are those of the n rows, and these are the outputs that some row names there
pub record IsKeptSet (n : ℕ) (rows : List Row) (set : ℕ) (table : List ℕ) (named : ℕ) : Type 0 where
  pub long : length table ≡ MAX_PORTS
  pub columns : (i j : ℕ) → j < MAX_PORTS → Has (slice_index table j) i ↔ ((i < n) × Names (row_of rows i) (level_at set) (kind_at Uni set) j)
  pub outputs : AreOutputs table named

-- the tables of columns that are kept, of which the first n rows are those of inputs
pub record AreKept (n : ℕ) (rows : List Row) (asks : Asks) : Type 0 where
  pub some : 0 < n
  pub size : n ≤ MAX_PORTS
  pub long : length rows ≡ MAX_PORTS
  pub sets : length asks.columns ≡ SETS
  pub words : length asks.outputs ≡ SETS
  pub each : (set : ℕ) → set < SETS → IsKeptSet n rows set (slice_index_or asks.columns set []) (slice_index asks.outputs set)
