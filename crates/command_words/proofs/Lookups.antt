-- What is found among the first items of a list.
use Rattle.std.proofs.Common.{◌≡◌, ◌+◌, ◌<◌, ℕ, Bool, true, false, ◌||◌, List, [], ◌∷◌}
use Rattle.std.proofs.Common.{Option, Some, Bor, ap, map, drop, length, get_or, add-one, drop-cons, refl}
use Rattle.std.specs.Prelude.{if◌then◌else◌, option_map}
use Rattle.std.specs.List.{list_any}
use Rattle.std.specs.Str.{bytes_eq}
use Rattle.command_words.specs.Parts.{Setting, is_among}
use Rattle.command_words.specs.PartsSteps.{setting_of, text_among}

abbrev Text : Type 0
Text = List ℕ

pub any_now : (names : List (Bor Text)) (name : Text)
    → list_any (λ other. bytes_eq other.now name) names ≡ is_among (map (λ other. other.now) names) name
any_now [] name = refl
any_now (other ∷ rest) name = ap (λ (b : Bool). bytes_eq other.now name || b) (any_now rest name)

text_by : (found : Bool) (setting : Setting) (others : Option Setting)
    → option_map (λ s. s.text) (if found then Some setting else others)
    ≡ (if found then Some setting.text else option_map (λ s. s.text) others)
text_by true setting others = refl
text_by false setting others = refl

-- the text of an option among the settings from place i on: that of the first of them, or one among the rest
pub text_among-next : (settings : List (Bor Text × Bor Text)) (i : ℕ) (d : Bor Text × Bor Text) (option : Text) → i < length settings
    → text_among (map setting_of (drop i settings)) option
    ≡ (if bytes_eq (get_or settings i d).0.now option then Some (get_or settings i d).1.now
    else text_among (map setting_of (drop (i + 1) settings)) option)
text_among-next settings i d option within =
    rw (add-one, drop-cons settings i d within) (text_by (bytes_eq (get_or settings i d).0.now option) (setting_of (get_or settings i d)) _)
