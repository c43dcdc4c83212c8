-- The rotating choices of many ports at once, each from its own set and its own pointer.
use Rattle.std.specs.Prelude.{◌≡◌, ℕ, ◌<◌, ◌≤◌, ◌↔◌, List, Option, None, Some, slice_index, slice_index_or}
use Rattle.rotating_pick.specs.PortSets.{Has}
use Rattle.rotating_pick.specs.Rotation.{IsFirstFrom}

-- port k takes part, and x is the member of its set that comes first from its pointer on
abbrev pub IsChoice : ℕ → List ℕ → List ℕ → ℕ → ℕ → ℕ → Type 0
IsChoice n from masks free k x = Has free k × IsFirstFrom n (slice_index from k) (Has (slice_index masks k)) x

-- these are the choices of the first m ports, None where a port has none
abbrev pub AreChoices : ℕ → List ℕ → List ℕ → ℕ → ℕ → List (Option ℕ) → Type 0
AreChoices n from masks free m chosen = (k : ℕ) → k < m → (x : ℕ) → (slice_index_or chosen k None ≡ Some x) ↔ IsChoice n from masks free k x

-- these are the choices of the n ports, and there is none beyond them
pub record AreAllChoices (n : ℕ) (from masks : List ℕ) (free : ℕ) (chosen : List (Option ℕ)) : Type 0 where
  pub choices : AreChoices n from masks free n chosen
  pub rest : (k : ℕ) → n ≤ k → slice_index_or chosen k None ≡ None
