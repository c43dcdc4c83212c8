-- Steps of the code, which its inner calls are described by; no reader needs to believe them.
use Rattle.std.specs.Prelude.{ℕ, ◌^◌, nat_lt, if◌then◌else◌, Result, Ok, Err, bit_or}

-- a fan-out with one port more: the set, or the first port that a switch of n ports does not have
abbrev pub with_port : ℕ → Result ℕ ℕ → ℕ → Result ℕ ℕ
with_port n (Ok set) port = if nat_lt port n then Ok (bit_or set (2 ^ port)) else Err port
with_port n (Err beyond) port = Err beyond
