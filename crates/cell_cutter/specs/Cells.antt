-- Cells: those of a message, the form of a cell, and its 64 bytes.
use Rattle.std.specs.Prelude.{◌≡◌, ℕ, ◌+◌, ◌-◌, ◌*◌, ◌<◌, ◌≤◌, Bool, true, false, List, ◌∷◌, ◌++◌, length, take, drop, map, replicate, nat_le}
use Rattle.std.specs.List.{range_with_len}
use Rattle.std.specs.Int.{w16, to_be_bytes}
use Rattle.rotating_pick.specs.declared.kinds.Kind.{Kind}
use Rattle.rotating_pick.specs.declared.limits.TheConstants.{LEVELS, MAX_PORTS}
use Rattle.cell_cutter.specs.declared.sizes.TheConstants.{MAX_NUMBER, PAYLOAD_BYTES}
use Rattle.cell_cutter.specs.declared.cell.Cell.{Cell}
use Rattle.cell_cutter.specs.Kinds.{kind_byte, flag_byte}
use Rattle.cell_cutter.specs.Messages.{cells_in}

-- the bytes of a message that its cell k carries: those from place 56 k on, at most 56
abbrev pub part : ℕ → List ℕ → List ℕ
part k message = take PAYLOAD_BYTES (drop (PAYLOAD_BYTES * k) message)

-- the bytes, followed by zeros, 56 in all
abbrev pub padded : List ℕ → List ℕ
padded bytes = bytes ++ replicate (PAYLOAD_BYTES - length bytes) 0

-- cell k of a message
abbrev pub cell_of : ℕ → ℕ → Kind → List ℕ → ℕ → Cell
cell_of input level kind message k = record {
  input = input;
  level = level;
  kind = kind;
  last = nat_le (length message) (PAYLOAD_BYTES * k + PAYLOAD_BYTES);
  used = length (part k message);
  number = k;
  payload = padded (part k message);
}

-- all cells of a message, in order
abbrev pub cells_of_message : ℕ → ℕ → Kind → List ℕ → List Cell
cells_of_message input level kind message =
    map (cell_of input level kind message) (range_with_len 0 (cells_in (length message)))

-- the bytes of a message that a cell carries
abbrev pub used_bytes : Cell → List ℕ
used_bytes cell = take cell.used cell.payload

-- a cell is full, but the last of a message may have less, and has some
abbrev pub IsUsed : Bool → ℕ → Type 0
IsUsed true used = (0 < used) × (used ≤ PAYLOAD_BYTES)
IsUsed false used = used ≡ PAYLOAD_BYTES

-- the form of a cell
pub record IsCellForm (cell : Cell) : Type 0 where
  pub input : cell.input < MAX_PORTS
  pub level : cell.level < LEVELS
  pub used : IsUsed cell.last cell.used
  pub number : cell.number ≤ MAX_NUMBER
  pub room : length cell.payload ≡ PAYLOAD_BYTES
  pub rest : drop cell.used cell.payload ≡ replicate (PAYLOAD_BYTES - cell.used) 0

-- the 64 bytes of a cell: its header of input, level, kind, last, used, a zero and the big-endian number, then the payload
abbrev pub cell_bytes : Cell → List ℕ
cell_bytes cell =
    (cell.input ∷ cell.level ∷ kind_byte cell.kind ∷ flag_byte cell.last ∷ cell.used ∷ 0 ∷ to_be_bytes w16 cell.number) ++ cell.payload
