-- What a word is where options may stand.
use Rattle.std.specs.Prelude.{ℕ, ◌==◌, if◌then◌else◌, List, [], ◌∷◌, Option, None, Some}
use Rattle.std.specs.List.{list_any, before_first, after_first}

-- the bytes of `-` and `=`
abbrev pub dash : ℕ
dash = 45

abbrev pub equals_sign : ℕ
equals_sign = 61

-- `--`; an option or a flag behind its dashes, with its name and the value behind its first `=`; a word that is a name or
-- a value; or what is refused
pub data Word : Type 0 where
  closing : Word
  dashed : List ℕ → Option (List ℕ) → Word
  plain : Word
  refused : Word

-- what stands before the first `=`, or all where there is none
abbrev pub name_before : List ℕ → List ℕ
name_before text = before_first (λ byte. byte == equals_sign) text

-- what stands behind the first `=`, if there is one
abbrev pub value_behind : List ℕ → Option (List ℕ)
value_behind text =
    if list_any (λ byte. byte == equals_sign) text then Some (after_first (λ byte. byte == equals_sign) text) else None

-- a word, by what follows its `--`
abbrev pub behind_dashes : List ℕ → Word
behind_dashes [] = closing
behind_dashes (byte ∷ rest) = dashed (name_before (byte ∷ rest)) (value_behind (byte ∷ rest))

-- `-` alone is plain, and so is what does not begin with `-`
abbrev pub word_of : List ℕ → Word
word_of [] = plain
word_of (first ∷ []) = plain
word_of (first ∷ second ∷ rest) =
    if first == dash then (if second == dash then behind_dashes rest else refused) else plain
