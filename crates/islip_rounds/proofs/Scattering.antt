-- A row's outputs, put into their columns one after another.
use Rattle.std.proofs.Common.{◌≡◌, ℕ, ◌↔◌, ◌⊎◌, List, slice_index}
use Rattle.rotating_pick.specs.PortSets.{Has}

-- input i is in the columns of the row's outputs except for those in `rest`, and else they are as before
pub record IsScattered (i row rest : ℕ) (before columns : List ℕ) : Type 0 where
  pub within : (j : ℕ) → Has rest j → Has row j
  pub scattered : (k j : ℕ) → Has (slice_index columns j) k ↔ (((k ≡ i) × Has row j × (Has rest j → ⊥)) ⊎ Has (slice_index before j) k)
