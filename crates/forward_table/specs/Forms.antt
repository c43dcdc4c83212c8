-- The form of a route line: `target blanks ports [blanks level]`.
use Rattle.std.specs.Prelude.{ℕ, Bool, false, ◌+◌, ◌-◌, ◌*◌, ◌^◌, ◌==◌, ◌&&◌, nat_le, if◌then◌else◌, List, [], ◌∷◌, Option, None, Some, Result, Ok, Err}
use Rattle.std.specs.Prelude.{option_and_then, option_map, find, bit_or}
use Rattle.std.specs.Int.{w32, from_be_bytes}
use Rattle.forward_table.specs.declared.route_lines.Target.{Target}
use Rattle.forward_table.specs.declared.route_lines.Target.TheVariants.{Prefix, Fallback}
use Rattle.forward_table.specs.declared.forms.Form.{Form}
use Rattle.forward_table.specs.Text.{star, comma, dot, slash, digit_zero, digit_nine, parts}

-- the steps of a `do` block: it gives nothing where one of them does
infixl 10 ◌>>=◌
abbrev pub ◌>>=◌ : {A B : Type 0} → Option A → (A → Option B) → Option B
o >>= f = option_and_then f o

-- the value of a decimal digit
abbrev pub digit_of : ℕ → Option ℕ
digit_of byte = if nat_le digit_zero byte && nat_le byte digit_nine then Some (byte - digit_zero) else None

-- number = 1 to 3 digits, with no leading zero except for "0" itself
unfoldable pub number_of : List ℕ → Option ℕ
number_of (a ∷ []) = digit_of a
number_of (a ∷ b ∷ []) = if a == digit_zero then None else do
  x ← digit_of a
  y ← digit_of b
  Some (10 * x + y)
number_of (a ∷ b ∷ c ∷ []) = if a == digit_zero then None else do
  x ← digit_of a
  y ← digit_of b
  z ← digit_of c
  Some (100 * x + 10 * y + z)
number_of _ = None

-- a number of at most `most`
abbrev pub number_up_to : ℕ → List ℕ → Option ℕ
number_up_to most text = do
  n ← number_of text
  if nat_le n most then Some n else None

-- octet = number of at most 255
abbrev pub octet_of : List ℕ → Option ℕ
octet_of text = number_up_to 255 text

-- address = octet "." octet "." octet "." octet, from its parts
abbrev pub address_from : List (List ℕ) → Option ℕ
address_from (a ∷ b ∷ c ∷ d ∷ []) = do
  w ← octet_of a
  x ← octet_of b
  y ← octet_of c
  z ← octet_of d
  Some (from_be_bytes w32 (w ∷ x ∷ y ∷ z ∷ []))
address_from _ = None

-- the address that a text spells
unfoldable pub address_of : List ℕ → Option ℕ
address_of text = address_from (parts dot text)

-- prefix = address "/" length, from its parts; length = number of at most 32
abbrev pub prefix_from : List (List ℕ) → Option Target
prefix_from (address ∷ length ∷ []) = do
  bits ← address_of address
  count ← number_up_to 32 length
  Some (Prefix count bits)
prefix_from _ = None

-- whether a word is `*`
abbrev pub is_star : List ℕ → Bool
is_star (byte ∷ []) = byte == star
is_star _ = false

-- target = "*" | prefix
unfoldable pub target_of : List ℕ → Option Target
target_of word = if is_star word then Some Fallback else prefix_from (parts slash word)

-- each of the texts as a number, where all of them are numbers
abbrev pub numbers_of : List (List ℕ) → Option (List ℕ)
numbers_of [] = Some []
numbers_of (text ∷ more) = do
  n ← number_of text
  ns ← numbers_of more
  Some (n ∷ ns)

-- the set of these ports
abbrev pub set_of : List ℕ → ℕ
set_of [] = 0
set_of (port ∷ more) = bit_or (2 ^ port) (set_of more)

-- the set, or the port that is not one of the switch's
abbrev pub unless_beyond : Option ℕ → ℕ → Result ℕ ℕ
unless_beyond (Some beyond) set = Err beyond
unless_beyond None set = Ok set

-- the fan-out of these ports: their set, or the first of them that a switch of n ports does not have
abbrev pub fan_of : ℕ → List ℕ → Result ℕ ℕ
fan_of n ports = unless_beyond (find (λ port. nat_le n port) ports) (set_of ports)

-- ports = number *("," number)
unfoldable pub ports_of : ℕ → List ℕ → Option (Result ℕ ℕ)
ports_of n word = option_map (fan_of n) (numbers_of (parts comma word))

-- level = number, 0 where it is absent
unfoldable pub form_of : ℕ → List (List ℕ) → Option Form
form_of n (target ∷ ports ∷ []) = do
  t ← target_of target
  f ← ports_of n ports
  Some (record { target = t; fan = f; level = 0 })
form_of n (target ∷ ports ∷ level ∷ []) = do
  t ← target_of target
  f ← ports_of n ports
  l ← number_of level
  Some (record { target = t; fan = f; level = l })
form_of n _ = None
