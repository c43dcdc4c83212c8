-- The words from a place on, of which the next is read or none is left.
use Rattle.std.proofs.Common.{◌≡◌, ◌∙◌, ◌+◌, ◌<◌, ◌≤◌, ℕ, List, Option, None, Some}
use Rattle.std.proofs.Common.{String, ap, map, drop, length, get_or, add-one, drop-cons, refl, string_bytes, sym}
use Rattle.std.specs.Prelude.{option_and_then}
use Rattle.std.proofs.lemmas.List.{drop_all}
use Rattle.command_words.specs.Parts.{PartsValue}
use Rattle.command_words.specs.Reading.{NamesOfOptions, Reading, ended, parts_after, read_word}

-- the parts of the words from place i on
abbrev pub parts_from : {Z : Type 0} → NamesOfOptions → Reading → List (String Z) → ℕ → Option PartsValue
parts_from names reading words i = parts_after names reading (map string_bytes (drop i words))

-- the parts after the next word, where it gave this
abbrev goes_on : {Z : Type 0} → NamesOfOptions → List (String Z) → ℕ → Option Reading → Option PartsValue
goes_on names words i read = option_and_then (λ next. parts_from names next words (i + 1)) read

by_next : {Z : Type 0} (names : NamesOfOptions) (reading : Reading) (words : List (String Z)) (i : ℕ) (d : String Z) → i < length words
    → parts_from names reading words i ≡ goes_on names words i (read_word names reading (string_bytes (get_or words i d)))
unfolding parts_after
by_next names reading words i d within = rw (add-one, drop-cons words i d within) refl

next_gives : {Z : Type 0} (names : NamesOfOptions) (reading : Reading) (words : List (String Z)) (i : ℕ) (item : String Z) (text : List ℕ)
    (read : Option Reading) → i < length words → item ≡ get_or words i item → text ≡ string_bytes item → read_word names reading text ≡ read
    → parts_from names reading words i ≡ goes_on names words i read
next_gives names reading words i item text read within item_is text_is gives =
    by_next names reading words i item within
    ∙ ap (goes_on names words i) (ap (λ (t : List ℕ). read_word names reading t) (ap string_bytes (sym item_is) ∙ sym text_is) ∙ gives)

-- a word that is read
pub next_is_read : {Z : Type 0} (names : NamesOfOptions) (reading next : Reading) (words : List (String Z)) (i : ℕ) (item : String Z) (text : List ℕ)
    (all : Option PartsValue) → i < length words → item ≡ get_or words i item → text ≡ string_bytes item → read_word names reading text ≡ Some next
    → parts_from names reading words i ≡ all → parts_from names next words (i + 1) ≡ all
next_is_read names reading next words i item text all within item_is text_is gives is =
    sym (next_gives names reading words i item text (Some next) within item_is text_is gives) ∙ is

-- a word that is refused
pub next_is_refused : {Z : Type 0} (names : NamesOfOptions) (reading : Reading) (words : List (String Z)) (i : ℕ) (item : String Z) (text : List ℕ)
    (all : Option PartsValue) → i < length words → item ≡ get_or words i item → text ≡ string_bytes item → read_word names reading text ≡ None
    → parts_from names reading words i ≡ all → all ≡ None
next_is_refused names reading words i item text all within item_is text_is gives is =
    sym is ∙ next_gives names reading words i item text None within item_is text_is gives

-- behind the last word
pub none_is_left : {Z : Type 0} (names : NamesOfOptions) (reading : Reading) (words : List (String Z)) (i : ℕ) (all : Option PartsValue)
    → length words ≤ i → parts_from names reading words i ≡ all → all ≡ ended reading
unfolding parts_after
none_is_left {Z} names reading words i all past is =
    sym is ∙ ap (λ (rest : List (String Z)). parts_after names reading (map string_bytes rest)) (drop_all i words past)
