-- What words say: the texts of options, the flags that are given, and the names.
use Rattle.std.specs.Prelude.{ℕ, Bool, ◌++◌, if◌then◌else◌, List, [], ◌∷◌, Option, None, Some, option_map, find, is_some, bytes_eq}
use Rattle.std.specs.List.{list_any}

-- an option with the text of its value
pub record Setting : Type 0 where
  pub option : List ℕ
  pub text : List ℕ

-- options with their texts, flags and names, each in the order of the words
pub record PartsValue : Type 0 where
  pub settings : List Setting
  pub flags : List (List ℕ)
  pub names : List (List ℕ)

-- before the first word
abbrev pub no_parts : PartsValue
no_parts = record { settings = []; flags = []; names = [] }

-- whether a name is one of these
abbrev pub is_among : List (List ℕ) → List ℕ → Bool
is_among names name = list_any (λ other. bytes_eq other name) names

-- the text of an option, where it is given
abbrev pub text_of : PartsValue → List ℕ → Option (List ℕ)
text_of parts option = option_map (λ setting. setting.text) (find (λ setting. bytes_eq setting.option option) parts.settings)

-- whether a flag is given
abbrev pub has_flag : PartsValue → List ℕ → Bool
has_flag parts flag = is_among parts.flags flag

-- with the text of an option; None where it is given already
abbrev pub with_text : PartsValue → List ℕ → List ℕ → Option PartsValue
with_text parts option text =
    if is_some (text_of parts option) then None
    else Some (record parts { settings = parts.settings ++ (record { option = option; text = text }) ∷ [] })

-- with a flag; None where it is given already
abbrev pub with_flag : PartsValue → List ℕ → Option PartsValue
with_flag parts flag = if has_flag parts flag then None else Some (record parts { flags = parts.flags ++ flag ∷ [] })

-- with one more name
abbrev pub with_name : PartsValue → List ℕ → PartsValue
with_name parts name = record parts { names = parts.names ++ name ∷ [] }
