-- What a word is to clap, and to the definition.
use Rattle.std.proofs.Common.{◌≡◌, ◌==◌, ap, true, false, [], ◌∷◌, Option, None, Some, refl, inl, inr, ℕ}
use Rattle.std.proofs.lemmas.Bool.{eqb-true, cases_Bool}
use Rattle.std.proofs.lemmas.Str.{encodes-chars}
use Rattle.std.specs.Prelude.{slice_get, is_some}
use Rattle.std.specs.Str.{IsUtf8}
use Rattle.std.specs.Char.{encode_utf8}
use Rattle.std.specs.Str.{bytes_eq, chars}
use Rattle.std.specs.List.{before_first}
use Rattle.clap.specs.Lexer.{long_of, short_of}
use Rattle.clap.specs.Walk.{Text}
use Rattle.switch_words.specs.Parts.{closing, option, name, refused, value_in, word_of}

-- an option of this name, with the value behind its `=` if there is one
pub record IsLong (word n : Text) (v : Option Text) : Type 0 where
  pub goes_on : bytes_eq word (45 ∷ 45 ∷ []) ≡ false
  pub long : long_of word ≡ Some (n, v)

-- one dash, and this byte and these behind it
pub record IsShort (word : Text) (b : ℕ) (rest : Text) : Type 0 where
  pub goes_on : bytes_eq word (45 ∷ 45 ∷ []) ≡ false
  pub no_long : long_of word ≡ None
  pub short : short_of word ≡ Some (b ∷ rest)

-- no option
pub record IsPlain (word : Text) : Type 0 where
  pub goes_on : bytes_eq word (45 ∷ 45 ∷ []) ≡ false
  pub no_long : long_of word ≡ None
  pub no_short : short_of word ≡ None

pub data Lexed (word : Text) : Type 0 where
  closes : bytes_eq word (45 ∷ 45 ∷ []) ≡ true → word_of word ≡ closing → Lexed word
  longs : (n : Text) (v : Option Text) → IsLong word n v → word_of word ≡ option n v → Lexed word
  shorts : (b : ℕ) (rest : Text) → IsShort word b rest → word_of word ≡ refused → word ≡ 45 ∷ b ∷ rest → Lexed word
  plains : IsPlain word → word_of word ≡ name → Lexed word

double : (a b : ℕ) (rest : Text) → (a == 45) ≡ true → (b == 45) ≡ true → Lexed (a ∷ b ∷ rest)
double a b [] h k = closes (rw (h, k) refl) (rw (h, k) refl)
double a b (x ∷ xs) h k =
    longs (before_first (λ c. c == 61) (x ∷ xs)) (value_in (x ∷ xs)) (record { goes_on = rw (h, k) refl; long = rw (h, k) refl }) (rw (h, k) refl)

pub lexed : (word : Text) → Lexed word
lexed [] = plains (record { goes_on = refl; no_long = refl; no_short = refl }) refl
lexed (a ∷ []) = elim (cases_Bool (a == 45)) [
  | inl h ↦ plains (record { goes_on = rw h refl; no_long = rw h refl; no_short = rw h refl }) refl
  | inr h ↦ plains (record { goes_on = rw h refl; no_long = rw h refl; no_short = rw h refl }) refl
]
lexed (a ∷ b ∷ rest) = elim (cases_Bool (a == 45)) [
  | inl h ↦ elim (cases_Bool (b == 45)) [
    | inl k ↦ double a b rest h k
    | inr k ↦
        let short : IsShort (a ∷ b ∷ rest) b rest = record { goes_on = rw (h, k) refl; no_long = rw (h, k) refl; short = rw (h, k) refl } in
        shorts b rest short (rw (h, k) refl) (ap (λ (x : ℕ). x ∷ b ∷ rest) (eqb-true a 45 h))
  ]
  | inr h ↦ plains (record { goes_on = rw h refl; no_long = rw h refl; no_short = rw h refl }) (rw h refl)
]

-- a character follows a dash
cut : (b : ℕ) (rest : Text) → chars (45 ∷ b ∷ rest) ≡ 45 ∷ chars (b ∷ rest)
unfolding chars
cut b rest = refl

first_char : (cs : Text) → (cs ≡ [] → ⊥) → is_some (slice_get cs 0) ≡ true
first_char [] h = absurd (h refl)
first_char (x ∷ xs) h = refl

pub char_after_dash : (b : ℕ) (rest : Text) → IsUtf8 (45 ∷ b ∷ rest) → is_some (slice_get (chars (b ∷ rest)) 0) ≡ true
unfolding encode_utf8
char_after_dash b rest utf8 = first_char (chars (b ∷ rest)) (λ none.
    let all = encodes-chars (45 ∷ b ∷ rest) utf8 in
    let short : 45 ∷ [] ≡ 45 ∷ b ∷ rest = rw (cut b rest, none) at all in
    cc)
