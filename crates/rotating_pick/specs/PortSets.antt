-- A set of ports is a number: port x is a member where bit x is 1.
use Rattle.std.specs.Prelude.{◌≡◌, ◌≢◌, ℕ, ◌^◌, ◌<◌}
use Rattle.std.specs.Int.{bit_at}

-- port x is a member of the set
abbrev pub Has : ℕ → ℕ → Type 0
Has ports x = bit_at ports x ≡ 1

-- each member is one of the n ports 0 to n - 1
abbrev pub IsAmong : ℕ → ℕ → Type 0
IsAmong n ports = ports < 2 ^ n

-- the set has two members at least
pub record HasSeveral (ports : ℕ) : Type 0 where
  pub one : ℕ
  pub other : ℕ
  pub differ : one ≢ other
  pub has_one : Has ports one
  pub has_other : Has ports other
