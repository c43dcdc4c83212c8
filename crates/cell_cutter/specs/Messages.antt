-- A packet's message: what its cells carry.
use Rattle.std.specs.Prelude.{ℕ, ◌+◌, List, ◌++◌, length}
use Rattle.std.specs.Int.{w32, to_be_bytes, div_ceil}
use Rattle.cell_cutter.specs.declared.sizes.TheConstants.{MESSAGE_HEADER_BYTES, PAYLOAD_BYTES}

-- seconds, nanoseconds, captured length and original length, each a big-endian 32-bit number
unfoldable pub message_header : ℕ → ℕ → ℕ → ℕ → List ℕ
message_header seconds nanos captured original =
    to_be_bytes w32 seconds ++ to_be_bytes w32 nanos ++ to_be_bytes w32 captured ++ to_be_bytes w32 original

-- the header, followed by the captured bytes
abbrev pub message : ℕ → ℕ → ℕ → List ℕ → List ℕ
message seconds nanos original bytes = message_header seconds nanos (length bytes) original ++ bytes

-- how many cells a message of this length has: its bytes by 56, rounded up
abbrev pub cells_in : ℕ → ℕ
cells_in bytes = div_ceil bytes PAYLOAD_BYTES

-- how many cells a packet of this number of captured bytes has: those of its message
abbrev pub cells_of_packet : ℕ → ℕ
cells_of_packet captured = cells_in (MESSAGE_HEADER_BYTES + captured)
