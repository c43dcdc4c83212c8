-- Lines and words of a text of bytes.
use Rattle.std.specs.Prelude.{ℕ, Bool, true, false, ◌-◌, ◌==◌, ◌||◌, if◌then◌else◌, List, [], ◌∷◌, length, take, filter, slice_index}
use Rattle.std.specs.List.{slice_split, onto_first}

-- the bytes that have a meaning, by their ASCII codes
abbrev pub tab : ℕ
tab = 9

abbrev pub line_feed : ℕ
line_feed = 10

abbrev pub carriage_return : ℕ
carriage_return = 13

abbrev pub space : ℕ
space = 32

abbrev pub hash_sign : ℕ
hash_sign = 35

abbrev pub star : ℕ
star = 42

abbrev pub comma : ℕ
comma = 44

abbrev pub dot : ℕ
dot = 46

abbrev pub slash : ℕ
slash = 47

abbrev pub digit_zero : ℕ
digit_zero = 48

abbrev pub digit_nine : ℕ
digit_nine = 57

-- spaces and tabs are blanks
abbrev pub is_blank : ℕ → Bool
is_blank byte = (byte == space) || (byte == tab)

-- the lines of a text: each line feed ends one, and what follows the last one is a line if it is not empty
abbrev pub lines : List ℕ → List (List ℕ)
lines [] = []
lines (byte ∷ rest) = if byte == line_feed then [] ∷ lines rest else onto_first byte (lines rest)

-- a line without a carriage return at its very end: one is taken off
abbrev pub without_return : List ℕ → List ℕ
without_return line =
    if slice_index line (length line - 1) == carriage_return then take (length line - 1) line else line

-- whether there is a byte
abbrev pub is_not_empty : List ℕ → Bool
is_not_empty [] = false
is_not_empty (byte ∷ rest) = true

-- the words of a line: what blanks part, without the empty parts between them and at both ends
abbrev pub words : List ℕ → List (List ℕ)
words line = filter is_not_empty (slice_split is_blank line)

-- the parts of a word round each such byte, of which there is one more than there are such bytes
abbrev pub parts : ℕ → List ℕ → List (List ℕ)
parts separator word = slice_split (λ byte. byte == separator) word

-- whether a word begins with `#`
abbrev pub is_comment : List ℕ → Bool
is_comment [] = false
is_comment (byte ∷ rest) = byte == hash_sign

-- the words, or none of them where the first begins with `#`
abbrev pub without_comment : List (List ℕ) → List (List ℕ)
without_comment [] = []
without_comment (word ∷ more) = if is_comment word then [] else word ∷ more

-- the words of a line that has a meaning: none for an empty line or a comment
abbrev pub content : List ℕ → List (List ℕ)
content line = without_comment (words (without_return line))
