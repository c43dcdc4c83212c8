-- The fields of a journal file: a field is a number of so many bytes, the highest first, and has its values.
use Rattle.std.specs.Prelude.{ℕ, ◌-◌, ◌^◌, ◌<◌, ◌≤◌, ◌==◌, ◌&&◌, ◌||◌, nat_lt, nat_le, Bool, if◌then◌else◌, List, [], ◌∷◌, length, drop, Result, Ok, Err}
use Rattle.byteorder.specs.Endian.{big_number}
use Rattle.journal_check.specs.declared.fields.Field.{Field}
use Rattle.journal_check.specs.declared.fields.Field.TheVariants.{Magic, Ports, Rounds, Zeros, Slots, Sets, More, Set, Input, Rank}

-- how many bytes the field has
abbrev pub len_of : Field → ℕ
len_of Magic = 4
len_of Ports = 1
len_of Rounds = 1
len_of Zeros = 2
len_of (Slots ports) = 4
len_of Sets = 1
len_of More = 1
len_of (Set ports) = 8
len_of (Input ports) = 1
len_of (Rank input) = 1

-- whether x is one of the numbers from low to high
abbrev pub is_from : ℕ → ℕ → ℕ → Bool
is_from low high x = nat_le low x && nat_le x high

-- the most slots of a file
abbrev pub most_slots : ℕ → ℕ
most_slots ports = if nat_lt 32 ports then 131073 else 262145

-- in place of an input: the output is free
abbrev pub no_input : ℕ
no_input = 0xff

-- whether the field may have the number
abbrev pub allows : Field → ℕ → Bool
allows Magic x = x == 0x54544a31
allows Ports x = is_from 1 64 x
allows Rounds x = is_from 1 64 x
allows Zeros x = x == 0
allows (Slots ports) x = is_from 1 (most_slots ports) x
allows Sets x = is_from 0 0xff x
allows More x = is_from 0 1 x
allows (Set ports) x = is_from 1 (2 ^ ports - 1) x
allows (Input ports) x = nat_lt x ports || x == no_input
allows (Rank input) x = if input == no_input then x == 0 else is_from 0 7 x

-- What a reading gives: what was read and the bytes after it, or else the bytes from the first bad field on.
abbrev pub Reading : Type 0 → Type 0
Reading X = Result (X × List ℕ) (List ℕ)

-- the number of a field, at the head of the bytes: the field is bad where it is not whole or may not have its number
unfoldable pub number_in : Field → List ℕ → Reading ℕ
number_in field bytes =
    if nat_le (len_of field) (length bytes)
    && allows field (big_number (len_of field) bytes) then Ok (big_number (len_of field) bytes, drop (len_of field) bytes) else Err bytes

-- a reading of what comes next, after what was read
abbrev pub read_on : {X Y : Type 0} → Reading X → (X → List ℕ → Reading Y) → Reading Y
read_on (Ok read) next = next read.0 read.1
read_on (Err bad) next = Err bad

-- one reading for each of these numbers, one after another
abbrev pub each_in : {X : Type 0} → (ℕ → List ℕ → Reading X) → List ℕ → List ℕ → Reading (List X)
each_in read [] bytes = Ok ([], bytes)
each_in read (k ∷ ks) bytes = read_on (read k bytes) (λ x more. read_on (each_in read ks more) (λ xs rest. Ok (x ∷ xs, rest)))

-- the field's ports, where it has some, are 1 to 64
abbrev pub HasPorts : Field → Type 0
HasPorts (Set ports) = (0 < ports) × (ports ≤ 64)
HasPorts _ = Unit {0}
