-- What a parse reads of digits.
use Rattle.std.proofs.Common.{◌≡◌, ℕ, ◌<◌, ◌≤◌, ◌^◌, true, false, List, length, Some, None, Ok, Err, rules, arith, refl, inl, inr}
use Rattle.std.proofs.lemmas.Bool.Decides.{leb_tells}
use Rattle.std.specs.Char.{is_ascii_digit}
use Rattle.std.specs.List.{list_all}
use Rattle.std.specs.Str.Parse.{ParsesUnsigned}
use Rattle.std.proofs.lemmas.Str.Parse.{IsNumeralModel, numerals_by_fold, parse_digits}
use Rattle.command_words.specs.Numbers.{is_number, value_after, value_of, number_within}

decimal : IsNumeralModel (λ ds. list_all is_ascii_digit ds ≡ true) (value_after 0)
decimal = numerals_by_fold _ (search rules) value_after (search rules)

digits_of : (bs : List ℕ) → is_number bs ≡ true → list_all is_ascii_digit bs ≡ true
unfolding is_number
digits_of bs h = grind arith

some_digit_of : (bs : List ℕ) → is_number bs ≡ true → 0 < length bs
unfolding is_number
some_digit_of bs h = grind arith

-- a parse that succeeds reads the digits' number
is_value : (bs : List ℕ) (n : ℕ) → is_number bs ≡ true → ParsesUnsigned {E = ℕ} 32 10 bs (Ok n) → n ≡ value_of bs
is_value bs n h parsed = (parse_digits decimal {E = ℕ} 32 bs (Ok n) parsed (digits_of bs h)).1

-- a text that is no number
pub within-no_number : (low high : ℕ) (bs : List ℕ) → is_number bs ≡ false → None ≡ number_within low high bs
unfolding number_within
within-no_number low high bs h = rw h refl

-- a number within the limits
pub within-some : (low high n : ℕ) (bs : List ℕ) → is_number bs ≡ true → ParsesUnsigned {E = ℕ} 32 10 bs (Ok n) → low ≤ n → n ≤ high
    → Some n ≡ number_within low high bs
unfolding number_within
within-some low high n bs h parsed over under = rw (h, ← is_value bs n h parsed) (grind arith)

-- a number outside the limits
pub within-low : (low high n : ℕ) (bs : List ℕ) → is_number bs ≡ true → ParsesUnsigned {E = ℕ} 32 10 bs (Ok n) → n < low
    → None ≡ number_within low high bs
unfolding number_within
within-low low high n bs h parsed below = rw (h, ← is_value bs n h parsed) (grind arith)

pub within-high : (low high n : ℕ) (bs : List ℕ) → is_number bs ≡ true → ParsesUnsigned {E = ℕ} 32 10 bs (Ok n) → high < n
    → None ≡ number_within low high bs
unfolding number_within
within-high low high n bs h parsed above = rw (h, ← is_value bs n h parsed) (grind arith)

-- a number that a word of 32 bits cannot have
pub within-beyond : (low high e : ℕ) (bs : List ℕ) → is_number bs ≡ true → ParsesUnsigned {E = ℕ} 32 10 bs (Err e) → high < 2 ^ 32
    → None ≡ number_within low high bs
unfolding number_within
within-beyond low high e bs h parsed small = elim (leb_tells (value_of bs) high) [
  | inl under ↦ absurd (parse_digits decimal {E = ℕ} 32 bs (Err e) parsed (digits_of bs h) (some_digit_of bs h, omega (arith, under.1, small)))
  | inr over ↦ rw (h, over.0) (grind arith)
]
