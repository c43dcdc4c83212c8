-- The targets of route lines: prefixes of addresses, and the rest.
use Rattle.std.specs.Prelude.{◌≡◌, ℕ, Bool, true, false, ◌-◌, ◌/◌, ◌%◌, ◌^◌, ◌≤◌, ◌==◌, ◌&&◌, not}
use Rattle.forward_table.specs.declared.route_lines.Target.{Target}
use Rattle.forward_table.specs.declared.route_lines.Target.TheVariants.{Prefix, Fallback}

-- whether a bit of the address beyond the length is set
abbrev pub has_host_bits : Target → Bool
has_host_bits (Prefix length address) = not (address % 2 ^ (32 - length) == 0)
has_host_bits Fallback = false

-- the same address and length, or both `*`
abbrev pub is_same_target : Target → Target → Bool
is_same_target (Prefix length address) (Prefix length' address') = (length == length') && (address == address')
is_same_target Fallback Fallback = true
is_same_target _ _ = false

-- whether the first `length` bits of an address are those of the target; `*` covers no address
abbrev pub covers : ℕ → Target → Bool
covers address (Prefix length prefix) = address / 2 ^ (32 - length) == prefix / 2 ^ (32 - length)
covers address Fallback = false

-- how many bits of an address the target fixes
abbrev pub length_of : Target → ℕ
length_of (Prefix length prefix) = length
length_of Fallback = 0

-- an address has 32 bits
abbrev pub HasLength : Target → Type 0
HasLength target = length_of target ≤ 32

-- a target as a table has it: at most 32 bits are fixed, and all others are 0
pub record IsPrefix (target : Target) : Type 0 where
  pub length : HasLength target
  pub no_host_bits : has_host_bits target ≡ false
