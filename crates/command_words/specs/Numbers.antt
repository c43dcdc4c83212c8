-- Numbers in words.
use Rattle.std.specs.Prelude.{ℕ, Bool, ◌+◌, ◌-◌, ◌*◌, ◌&&◌, nat_le, if◌then◌else◌, List, [], ◌∷◌, length, Option, None, Some}
use Rattle.std.specs.Char.{is_ascii_digit}
use Rattle.std.specs.List.{list_all}
use Rattle.command_words.specs.declared.numbers.TheConstants.{MAX_DIGITS}

-- number = 1 to 10 decimal digits
unfoldable pub is_number : List ℕ → Bool
is_number text = nat_le 1 (length text) && (nat_le (length text) MAX_DIGITS && list_all is_ascii_digit text)

-- the number that digits write behind those of n
abbrev pub value_after : ℕ → List ℕ → ℕ
value_after n [] = n
value_after n (digit ∷ rest) = value_after (10 * n + (digit - 48)) rest

-- the number that digits write
abbrev pub value_of : List ℕ → ℕ
value_of digits = value_after 0 digits

-- the number from low to high that a text writes
unfoldable pub number_within : ℕ → ℕ → List ℕ → Option ℕ
number_within low high text =
    if is_number text && (nat_le low (value_of text) && nat_le (value_of text) high) then Some (value_of text) else None
