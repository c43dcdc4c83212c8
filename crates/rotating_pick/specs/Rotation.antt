-- Rotating choice: which of some ports comes first from a pointer on, round the circle of n ports.
use Rattle.std.specs.Prelude.{ℕ, ◌+◌, ◌-◌, ◌%◌, ◌<◌, ◌≤◌}

-- how many steps port x is past port `from`: (x - from) mod n
abbrev pub distance : ℕ → ℕ → ℕ → ℕ
distance n from x = (x + (n - from)) % n

-- of the ports with P, x is the one of least distance from port `from`
pub record IsFirstFrom (n from : ℕ) (P : ℕ → Type 0) (x : ℕ) : Type 0 where
  pub below : x < n
  pub member : P x
  pub least : (y : ℕ) → y < n → P y → distance n from x ≤ distance n from y
