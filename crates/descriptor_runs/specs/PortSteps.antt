-- Steps of proofs: what is kept of all inputs of a run by descriptors together: which of them ask, the slot in which a packet
-- arrives next, and the names of the cells that they are granted.
use Rattle.std.specs.Prelude.{◌≡◌, ◌<◌, ◌≤◌, ◌↔◌, ◌==◌, ℕ, min, false, if◌then◌else◌, List, Option, None, Some, length, map, slice_get, slice_index_or}
use Rattle.std.specs.Int.{bit_at}
use Rattle.std.specs.List.{range_with_len}
use Rattle.rotating_pick.specs.PortSets.{Has}
use Rattle.rotating_pick.specs.declared.limits.TheConstants.{MAX_PORTS}
use Rattle.cell_cutter.specs.declared.cell.CellName.{CellName}
use Rattle.slot_match.specs.declared.rows.Row.{Row}
use Rattle.slot_histories.specs.Tests.{is_empty}
use Rattle.descriptor_runs.specs.InputSteps.{InputValue, next_slot, row_in}

-- no packet is to come to one of the first k inputs before this slot, or none at all
abbrev pub NoneBefore : ℕ → List InputValue → Option ℕ → Type 0
NoneBefore k inputs None = (i : ℕ) (input : InputValue) → i < k → slice_get inputs i ≡ Some input → next_slot input ≡ None
NoneBefore k inputs (Some first) = (i s : ℕ) (input : InputValue) → i < k → slice_get inputs i ≡ Some input → next_slot input ≡ Some s → first ≤ s

-- to one of them a packet is to come in this slot, if it is one
abbrev pub ComesTo : ℕ → List InputValue → Option ℕ → Type 0
ComesTo k inputs None = Unit {0}
ComesTo k inputs (Some first) = (i : ℕ) × (input : InputValue) × (i < k) × (slice_get inputs i ≡ Some input) × (next_slot input ≡ Some first)

-- In this slot the next packet comes to one of the first k inputs, if one is to come.
pub record IsFirst (k : ℕ) (inputs : List InputValue) (first : Option ℕ) : Type 0 where
  pub least : NoneBefore k inputs first
  pub there : ComesTo k inputs first

-- the earlier of two slots, of which there may be none
abbrev pub earlier_of : Option ℕ → Option ℕ → Option ℕ
earlier_of None b = b
earlier_of (Some a) None = Some a
earlier_of (Some a) (Some b) = Some (min a b)

-- input i's row is one of these and names an output
abbrev pub AsksAt : List Row → ℕ → Type 0
AsksAt rows i = (row : Row) × (slice_get rows i ≡ Some row) × (is_empty row ≡ false)

-- Of these rows, no more than there can be ports, those of these inputs name an output.
pub record AreAsking (rows : List Row) (asking : ℕ) : Type 0 where
  pub size : length rows ≤ MAX_PORTS
  pub asks : (i : ℕ) → Has asking i ↔ AsksAt rows i

-- These are the rows of the inputs' queues, and this is the slot in which a packet comes next to one of them. There are no more
-- inputs than there can be ports.
pub record AreKept (inputs : List InputValue) (rows : List Row) (first : Option ℕ) : Type 0 where
  pub size : length inputs ≤ MAX_PORTS
  pub rows_are : rows ≡ map row_in inputs
  pub next : IsFirst (length inputs) inputs first

-- a name of no cell
abbrev pub no_name : CellName
no_name = record { packet = 0; number = 0; last = false }

-- the names of the cells that these inputs are granted, by port
abbrev pub names_of : ℕ → List CellName → List (Option CellName)
names_of granted names = map (λ i. if bit_at granted i == 1 then Some (slice_index_or names i no_name) else None) (range_with_len 0 MAX_PORTS)
