-- What the code knows of the parts of words.
use Rattle.std.specs.Prelude.{ℕ, List, Option, option_map, find, bytes_eq}
use Rattle.std.specs.Borrow.{Bor}
use Rattle.command_words.specs.Parts.{Setting}

-- an option with its text
abbrev pub setting_of : Bor (List ℕ) × Bor (List ℕ) → Setting
setting_of pair = record { option = pair.0.now; text = pair.1.now }

-- the text of an option, where it is one of these settings
abbrev pub text_among : List Setting → List ℕ → Option (List ℕ)
text_among settings option = option_map (λ setting. setting.text) (find (λ setting. bytes_eq setting.option option) settings)
