-- Where a separator first stands, and what it leaves of lines, parts and words.
use Rattle.std.proofs.Common.{◌≡◌, ℕ, suc, ◌+◌, ◌<◌, ◌≤◌, Bool, true, false, not, ◌==◌, List, [], ◌∷◌, length, get_or, take, drop, Some, None, position}
use Rattle.std.proofs.Common.{nat_lt, refl, sym, ap, subst, ◌∙◌, arith, add-one, inl, inr}
use Rattle.std.specs.Prelude.{filter}
use Rattle.std.specs.List.{slice_split, position_or_len}
use Rattle.std.proofs.lemmas.Bool.{ltb-true, ltb-false, cases_Bool, cases_eq}
use Rattle.std.proofs.lemmas.Option.{cond_some}
use Rattle.std.proofs.lemmas.List.{drop_all, drop_more, length-drop, length-take}
use Rattle.std.proofs.lemmas.List.Quantifiers.{position-Some}
use Rattle.std.proofs.lemmas.List.Splits.{slice_split_first, length-slice_split}
use Rattle.std.proofs.Math.Numerals.{one-add}
use Rattle.forward_table.specs.Text.{lines, words, parts, is_blank, is_not_empty, line_feed}

-- the place that `position` gives is within the list
pub place_is : {X : Type 0} (p : X → Bool) (xs : List X) (i : ℕ) → position p xs ≡ Some i → (position_or_len p xs ≡ i) × (i < length xs)
place_is p xs i e =
    let found = cond_some (nat_lt (position_or_len p xs) (length xs)) (position_or_len p xs) i e in
    (found.1, rw (← found.1) (ltb-true _ _ found.0))

-- where it gives none, no place is
pub no_place : {X : Type 0} (p : X → Bool) (xs : List X) → position p xs ≡ None → length xs ≤ position_or_len p xs
no_place p xs e =
    elim (cases_Bool (nat_lt (position_or_len p xs) (length xs))) [
      | inl passes ↦ let e' = rw passes at e in absurd cc
      | inr fails ↦ ltb-false _ _ fails
    ]

-- ---- lines

abbrev is_line_feed : ℕ → Bool
is_line_feed byte = byte == line_feed

-- a line feed ends a line
lines_to_place : (text : List ℕ) → position_or_len is_line_feed text < length text
    → lines text ≡ take (position_or_len is_line_feed text) text ∷ lines (drop (suc (position_or_len is_line_feed text)) text)
lines_to_place [] within = absurd (omega arith)
lines_to_place (x ∷ xs) within =
    elim (cases_Bool (is_line_feed x)) [
      | inl passes ↦ rw passes refl
      | inr fails ↦ let further = rw fails at within in rw (fails, one-add, lines_to_place xs (omega arith)) refl
    ]

pub lines_at : (text : List ℕ) (i : ℕ) → position is_line_feed text ≡ Some i → lines text ≡ take i text ∷ lines (drop (i + 1) text)
lines_at text i e =
    let found = place_is is_line_feed text i e in
    let within : position_or_len is_line_feed text < length text = omega (arith, found) in
    subst (λ (k : ℕ). lines text ≡ take k text ∷ lines (drop (k + 1) text)) found.0 (rw add-one (lines_to_place text within))

-- a text without a line feed is one line, if it is not empty
lines_to_end : (text : List ℕ) → 0 < length text → length text ≤ position_or_len is_line_feed text → lines text ≡ text ∷ []
lines_to_end [] some beyond = absurd (omega arith)
lines_to_end (x ∷ []) some beyond =
    elim (cases_Bool (is_line_feed x)) [
      | inl passes ↦ let none = rw passes at beyond in absurd (omega arith)
      | inr fails ↦ rw fails refl
    ]
lines_to_end (x ∷ y ∷ xs) some beyond =
    elim (cases_Bool (is_line_feed x)) [
      | inl passes ↦ let none = rw passes at beyond in absurd (omega arith)
      | inr fails ↦ let further = rw fails at beyond in rw (fails, lines_to_end (y ∷ xs) (omega arith) (omega arith)) refl
    ]

pub lines_whole : (text : List ℕ) → 0 < length text → position is_line_feed text ≡ None → lines text ≡ text ∷ lines (drop (length text) text)
lines_whole text some e =
    let all : length text ≤ length text = omega arith in
    rw drop_all (lines_to_end text some (no_place is_line_feed text e))

-- ---- parts

pub split_at_place : (p : ℕ → Bool) (xs : List ℕ) (i : ℕ) → position p xs ≡ Some i → slice_split p xs ≡ take i xs ∷ slice_split p (drop (i + 1) xs)
split_at_place p xs i e =
    let found = place_is p xs i e in
    let within : position_or_len p xs < length xs = omega (arith, found) in
    subst (λ (k : ℕ). slice_split p xs ≡ take k xs ∷ slice_split p (drop (k + 1) xs)) found.0 (slice_split_first p xs 0 within)

split_to_end : (p : ℕ → Bool) (xs : List ℕ) → length xs ≤ position_or_len p xs → slice_split p xs ≡ xs ∷ []
split_to_end p [] beyond = refl
split_to_end p (x ∷ xs) beyond =
    elim (cases_Bool (p x)) [
      | inl passes ↦ let none = rw passes at beyond in absurd (omega arith)
      | inr fails ↦ let further = rw fails at beyond in rw (fails, split_to_end p xs (omega arith)) refl
    ]

pub split_whole : (p : ℕ → Bool) (xs : List ℕ) → position p xs ≡ None → slice_split p xs ≡ xs ∷ []
split_whole p xs e = split_to_end p xs (no_place p xs e)

-- a word has one part at least
pub some_parts : (separator : ℕ) (word : List ℕ) → 0 < length (parts separator word)
some_parts separator word = omega (arith, length-slice_split (λ byte. byte == separator) word)

-- ---- words

abbrev is_in_word : ℕ → Bool
is_in_word byte = not (is_blank byte)

words-blank : (x : ℕ) (xs : List ℕ) → is_blank x ≡ true → words (x ∷ xs) ≡ words xs
words-blank x xs e = rw e refl

-- the blanks before a word do not matter
words_from_place : (line : List ℕ) → words line ≡ words (drop (position_or_len is_in_word line) line)
words_from_place [] = refl
words_from_place (x ∷ xs) =
    elim (cases_Bool (is_blank x)) [
      | inl passes ↦ words-blank x xs passes ∙ rw (passes, one-add) (words_from_place xs)
      | inr fails ↦ rw (fails, fails) refl
    ]

pub words_from : (line : List ℕ) (i : ℕ) → position is_in_word line ≡ Some i → words line ≡ words (drop i line)
words_from line i e = subst (λ (k : ℕ). words line ≡ words (drop k line)) (place_is is_in_word line i e).0 (words_from_place line)

pub no_words : (line : List ℕ) → position is_in_word line ≡ None → words line ≡ []
no_words line e = words_from_place line ∙ ap words (drop_all (position_or_len is_in_word line) line (no_place is_in_word line e))

-- what a word begins with is no blank
first_in_place : (line : List ℕ) → position_or_len is_in_word line < length line → (x : ℕ) × (xs : List ℕ)
    × (drop (position_or_len is_in_word line) line ≡ x ∷ xs) × (is_blank x ≡ false)
first_in_place [] within = absurd (omega arith)
first_in_place (x ∷ xs) within =
    elim (cases_Bool (is_blank x)) [
      | inl passes ↦ let further = rw passes at within in rw (passes, one-add) (first_in_place xs (omega arith))
      | inr fails ↦ rw fails (x, xs, refl, fails)
    ]

is_not_empty-from_length : (word : List ℕ) → 0 < length word → is_not_empty word ≡ true
is_not_empty-from_length [] some = absurd (omega arith)
is_not_empty-from_length (x ∷ xs) some = refl

-- what begins with no blank begins with a word, up to the next blank
word_to_place : (line : List ℕ) (x : ℕ) (xs : List ℕ) (e : ℕ) → line ≡ x ∷ xs → is_blank x ≡ false → position is_blank line ≡ Some e
    → words line ≡ take e line ∷ words (drop e line)
word_to_place line x xs e begins in_word at =
    let found = position-Some is_blank line e 0 at in
    let first : get_or line 0 0 ≡ x = rw begins refl in
    let some : 0 < e = elim (cases_eq e 0) [
      | inl none ↦ let blank : is_blank x ≡ true = ap is_blank (sym first ∙ ap (λ (k : ℕ). get_or line k 0) (sym none)) ∙ found.1 in absurd cc
      | inr other ↦ omega arith
    ] in
    let word : is_not_empty (take e line) ≡ true = is_not_empty-from_length (take e line) (omega (arith, length-take e line, found.0)) in
    let rest : words (drop e line) ≡ words (drop (e + 1) line) = ap words (drop_more line e 0 found.0)
    ∙ words-blank (get_or line e 0) (drop (e + 1) line) found.1 in
    ap (filter is_not_empty) (split_at_place is_blank line e at) ∙ rw (word, rest) refl

-- or up to its end
word_to_end : (line : List ℕ) → 0 < length line → position is_blank line ≡ None → words line ≡ line ∷ []
word_to_end line some at =
    let word : is_not_empty line ≡ true = is_not_empty-from_length line some in
    ap (filter is_not_empty) (split_whole is_blank line at) ∙ rw word refl

pub word_at : (line : List ℕ) (i e : ℕ) → position is_in_word line ≡ Some i → position is_blank (drop i line) ≡ Some e
    → words line ≡ take e (drop i line) ∷ words (drop e (drop i line))
word_at line i e from at =
    let found = place_is is_in_word line i from in
    let within : position_or_len is_in_word line < length line = omega (arith, found) in
    let begins = first_in_place line within in
    let begins_at : drop i line ≡ begins.0 ∷ begins.1 = subst (λ (k : ℕ). drop k line ≡ begins.0 ∷ begins.1) found.0 begins.2 in
    words_from line i from ∙ word_to_place (drop i line) begins.0 begins.1 e begins_at begins.3 at

pub last_word_at : (line : List ℕ) (i : ℕ) → position is_in_word line ≡ Some i → position is_blank (drop i line) ≡ None
    → words line ≡ drop i line ∷ words (drop (length (drop i line)) (drop i line))
last_word_at line i from at =
    let found = place_is is_in_word line i from in
    let all : length (drop i line) ≤ length (drop i line) = omega arith in
    rw (drop_all (length (drop i line)) (drop i line) all)
    (words_from line i from ∙ word_to_end (drop i line) (omega (arith, found, length-drop i line)) at)
