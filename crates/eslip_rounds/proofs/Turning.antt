-- One input's bits in the columns of one set, turned output after output.
use Rattle.std.proofs.Common.{◌≡◌, ◌≢◌, ℕ, ◌<◌, ◌↔◌, ◌⊎◌, List, length, slice_index}
use Rattle.rotating_pick.specs.PortSets.{Has}
use Rattle.rotating_pick.specs.declared.limits.TheConstants.{MAX_PORTS}
use Rattle.eslip_rounds.specs.ColumnSteps.{AreOutputs}

-- what input `input` names now at output y, and all others as the column had them
abbrev pub IsPlaced : ℕ → ℕ → List ℕ → ℕ → ℕ → Type 0
IsPlaced input new first y i = ((i ≡ input) × Has new y) ⊎ ((i ≢ input) × Has (slice_index first y) i)

-- the columns of all outputs but those of `rest` are turned, and those are as they were at first
pub record AreTurned (input new : ℕ) (first : List ℕ) (rest : ℕ) (table : List ℕ) (named : ℕ) : Type 0 where
  pub long : length table ≡ MAX_PORTS
  pub done : (i y : ℕ) → y < MAX_PORTS → (Has rest y → ⊥) → Has (slice_index table y) i ↔ IsPlaced input new first y i
  pub waits : (y : ℕ) → Has rest y → slice_index table y ≡ slice_index first y
  pub outputs : AreOutputs table named
