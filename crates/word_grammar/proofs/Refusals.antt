-- A word that is no option's is refused wherever it stands before `--`.
use Rattle.std.proofs.Common.{◌≡◌, ◌∙◌, ◌==◌, ap, sym, List, [], ◌∷◌, ◌++◌, Option, None, Some, refl, inl, inr, ℕ, codes, option_and_then, Contains, arith}
use Rattle.std.proofs.lemmas.List.Elements.{Contains-append_left, Contains-append_right}
use Rattle.std.specs.List.{before_first}
use Rattle.switch_words.specs.Options.{Setting, Switch, value, flag, command_named, option_of}
use Rattle.switch_words.specs.Parts.{Parts, Word, closing, option, name, refused, after_option, after_value, after_word, equals_sign, no_parts, parts_from}
use Rattle.switch_words.specs.Parts.{value_in, with_flag, with_text, word_of}
use Rattle.switch_words.specs.Reading.{job_with, reading_of}
use Rattle.word_grammar.specs.Grammar.{Text, option_at}
use Rattle.word_grammar.proofs.Ids.{Command, at_command}
use Rattle.word_grammar.proofs.Orders.{by_command, unnamed}
use Rattle.word_grammar.proofs.Forms.{closes, form, longs, others, plains, valued}

abbrev pub Reader : Type 0
Reader = Option Setting → Parts → Option Parts

abbrev pub IsLost : Reader → Type 0
IsLost read = (awaited : Option Setting) (parts : Parts) → read awaited parts ≡ None

lost : (o : Option Parts) (f : Parts → Option Parts) → ((p : Parts) → f p ≡ None) → option_and_then f o ≡ None
lost None f h = refl
lost (Some p) f h = h p

option_lost : (parts : Parts) (behind : Option Text) (w : Switch) (read : Reader) → IsLost read → after_option parts behind w read ≡ None
option_lost parts (Some text) (value s) read none = lost (with_text parts s text) (read None) (none None)
option_lost parts None (value s) read none = none (Some s) parts
option_lost parts (Some text) (flag f) read none = refl
option_lost parts None (flag f) read none = lost (with_flag parts f) (read None) (none None)

switch_lost : (o : Option Switch) (parts : Parts) (behind : Option Text) (read : Reader) → IsLost read
    → option_and_then (λ w. after_option parts behind w read) o ≡ None
switch_lost None parts behind read none = refl
switch_lost (Some w) parts behind read none = option_lost parts behind w read none

word_lost : (command : Command) (parts : Parts) (word : Text) (rest : List Text) (form : Word) (read : Reader) → (form ≡ closing → ⊥) → IsLost read
    → after_word command parts word rest form read ≡ None
word_lost command parts word rest closing read isnt none = absurd (isnt refl)
word_lost command parts word rest (option text behind) read isnt none = switch_lost (option_of command text) parts behind read none
word_lost command parts word rest name read isnt none = none None _
word_lost command parts word rest refused read isnt none = refl

value_lost : (parts : Parts) (s : Setting) (word : Text) (form : Word) (read : Reader) → IsLost read → after_value parts s word form read ≡ None
value_lost parts s word name read none = lost (with_text parts s word) (read None) (none None)
value_lost parts s word closing read none = refl
value_lost parts s word (option text behind) read none = refl
value_lost parts s word refused read none = refl

-- a word that closes the options is `--`
closing_word : (word : Text) → word_of word ≡ closing → word ≡ codes "--"
closing_word word h = elim (form word) [
  | closes is w ↦ is
  | longs id is w ↦ cc
  | valued id text is w ↦ cc
  | plains w ↦ cc
  | others w ↦ cc
]

-- what no command has an option for
abbrev pub lost_at : (command : Command) (word : Text) (after : List Text) → Type 0
lost_at command word after = (awaited : Option Setting) (parts : Parts) → parts_from command awaited parts (word ∷ after) ≡ None

all_lost : (command : Command) (word : Text) (before after : List Text) → lost_at command word after → (Contains before (codes "--") → ⊥)
    → (awaited : Option Setting) (parts : Parts) → parts_from command awaited parts (before ++ word ∷ after) ≡ None
unfolding parts_from
all_lost command word [] after bad apart awaited parts = bad awaited parts
all_lost command word (first ∷ rest) after bad apart None parts =
    word_lost command parts first (rest ++ word ∷ after) (word_of first) (λ awaited more. parts_from command awaited more (rest ++ word ∷ after))
    (λ closed. apart (Contains-append_left (first ∷ []) rest (codes "--") (0, omega arith, closing_word first closed)))
    (all_lost command word rest after bad (λ there. apart (Contains-append_right (first ∷ []) rest (codes "--") there)))
all_lost command word (first ∷ rest) after bad apart (Some s) parts =
    value_lost parts s first (word_of first) (λ awaited more. parts_from command awaited more (rest ++ word ∷ after))
    (all_lost command word rest after bad (λ there. apart (Contains-append_right (first ∷ []) rest (codes "--") there)))

-- ---- an unknown option

unknown_word : (b : ℕ) (more : Text) → word_of (codes "--" ++ b ∷ more) ≡ option (before_first (λ x. x == equals_sign) (b ∷ more)) (value_in (b ∷ more))
unknown_word b more = refl

unknown_lost : (command : Command) (b : ℕ) (more : Text) (after : List Text) → option_of command (before_first (λ x. x == equals_sign) (b ∷ more)) ≡ None
    → lost_at command (codes "--" ++ b ∷ more) after
unfolding parts_from
unknown_lost command b more after unknown None parts =
    ap (option_and_then (λ w. after_option parts (value_in (b ∷ more)) w (λ awaited all. parts_from command awaited all after))) unknown
unknown_lost command b more after unknown (Some s) parts = refl

unknown : (command : Command) (word id : Text) (before after : List Text) → command_named word ≡ Some command → (id ≡ [] → ⊥)
    → option_at word (before_first (λ x. x == equals_sign) id) ≡ None → (Contains before (codes "--") → ⊥)
    → reading_of (word ∷ (before ++ (codes "--" ++ id) ∷ after)) ≡ None
unfolding reading_of
unknown command word [] before after named some not apart = absurd (some refl)
unknown command word (b ∷ more) before after named some not apart =
    rw named (ap (option_and_then (job_with command))
    (all_lost command (codes "--" ++ b ∷ more) before after
    (unknown_lost command b more after (sym (at_command word command named (before_first (λ x. x == equals_sign) (b ∷ more))) ∙ not)) apart None no_parts))

pub unknown_is_usage : (word id : Text) (before after : List Text) → (id ≡ [] → ⊥) → option_at word (before_first (λ x. x == equals_sign) id) ≡ None
    → (Contains before (codes "--") → ⊥) → reading_of (word ∷ (before ++ (codes "--" ++ id) ∷ after)) ≡ None
unknown_is_usage word id before after some not apart = elim (by_command (command_named word)) [
  | inl none ↦ unnamed word (before ++ (codes "--" ++ id) ∷ after) none
  | inr c ↦ unknown c.0 word id before after c.1 some not apart
]
