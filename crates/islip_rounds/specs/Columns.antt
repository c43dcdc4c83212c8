-- Requests by rows, a set of outputs for each input, and by columns, a set of inputs for each output.
use Rattle.std.specs.Prelude.{ℕ, ◌<◌, ◌↔◌, List, slice_index}
use Rattle.rotating_pick.specs.PortSets.{Has}

-- column j has those of the first n inputs whose rows have output j, and no others
abbrev pub AreColumns : ℕ → List ℕ → List ℕ → Type 0
AreColumns n rows columns = (i j : ℕ) → Has (slice_index columns j) i ↔ ((i < n) × Has (slice_index rows i) j)
