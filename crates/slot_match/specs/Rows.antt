-- Rows: what the inputs of a switch post in a slot.
use Rattle.std.specs.Prelude.{◌≡◌, ℕ, ◌<◌, List, [], length, replicate, slice_index, slice_index_or}
use Rattle.rotating_pick.specs.PortSets.{Has}
use Rattle.rotating_pick.specs.declared.kinds.Kind.{Kind}
use Rattle.rotating_pick.specs.declared.kinds.Kind.TheVariants.{Uni, Multi}
use Rattle.rotating_pick.specs.declared.limits.TheConstants.{LEVELS}
use Rattle.slot_match.specs.declared.rows.Row.{Row}

-- the sets of one kind, for each level
abbrev pub sets_of : Row → Kind → List ℕ
sets_of row Uni = row.uni
sets_of row Multi = row.multi

-- the row names output j at the level with the kind
abbrev pub Names : Row → ℕ → Kind → ℕ → Type 0
Names row level kind j = Has (slice_index (sets_of row kind) level) j

-- the row names no output
abbrev pub IsEmptyRow : Row → Type 0
IsEmptyRow row = (level j : ℕ) (kind : Kind) → Names row level kind j → ⊥

-- the row that names no output
abbrev pub empty_row : Row
empty_row = record { uni = replicate LEVELS 0; multi = replicate LEVELS 0 }

-- a row of which nothing is known to be named
abbrev pub no_row : Row
no_row = record { uni = []; multi = [] }

-- what input i posts
abbrev pub row_of : List Row → ℕ → Row
row_of rows i = slice_index_or rows i no_row

-- the row names none but the n ports
abbrev pub IsWithin : ℕ → Row → Type 0
IsWithin n row = (level j : ℕ) (kind : Kind) → Names row level kind j → j < n

-- the row has sets for no levels but the four
abbrev pub IsOfLevels : Row → Type 0
IsOfLevels row = (level j : ℕ) (kind : Kind) → Names row level kind j → level < LEVELS

-- there is a row of four levels for each of the n inputs, and they name none but the n outputs
pub record AreWithin (n : ℕ) (rows : List Row) : Type 0 where
  pub count : length rows ≡ n
  pub ports : (i : ℕ) → i < n → IsWithin n (row_of rows i)
  pub levels : (i : ℕ) → i < n → IsOfLevels (row_of rows i)

-- input i posts a multicast head at the level
abbrev pub HasHead : List Row → ℕ → ℕ → Type 0
HasHead rows level i = (j : ℕ) × Names (row_of rows i) level Multi j
