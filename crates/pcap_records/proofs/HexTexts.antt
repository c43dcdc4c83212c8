-- What `{:08x}` writes of a number of 32 bits: the text of its bytes, the highest first.
use Rattle.std.proofs.Common.{◌≡◌, ℕ, zero, suc, ◌+◌, ◌-◌, ◌/◌, ◌%◌, ◌^◌, ◌<◌, ◌==◌, ◌&&◌, Bool, true, false, List, [], ◌∷◌, ◌++◌, length, replicate}
use Rattle.std.proofs.Common.{if◌then◌else◌, slice_index, refl, sym, ap, ◌∙◌, arith, inl, inr}
use Rattle.std.specs.Fmt.{char_count, digit_glyph, digits, digits_onto, format_spec, padded_integral}
use Rattle.std.proofs.lemmas.Bool.{and_parts, cases_lt, eqb-true}
use Rattle.std.proofs.lemmas.List.{append-nil, length-append, length-replicate}
use Rattle.hex.specs.Hex.{encode_with, lower_digits}
use Rattle.pcap_records.specs.Texts.{hex_text}

-- ---- the digits of the table

abbrev same_digit : ℕ → Bool
same_digit d = slice_index lower_digits d == digit_glyph false d

abbrev same_below : ℕ → Bool
same_below zero = true
same_below (suc n) = same_digit n && same_below n

same_below-at : (n d : ℕ) → same_below n ≡ true → d < n → slice_index lower_digits d ≡ digit_glyph false d
same_below-at zero d h lt = absurd (omega arith)
same_below-at (suc n) d h lt =
    let parts = and_parts (same_digit n) (same_below n) h in
    elim (cases_lt d n) [
      | inl below ↦ same_below-at n d parts.1 below
      | inr top ↦
          let e : d ≡ n = omega arith in
          rw e (eqb-true (slice_index lower_digits n) (digit_glyph false n) parts.0)
    ]

lower_digit : (d : ℕ) → d < 16 → slice_index lower_digits d ≡ digit_glyph false d
lower_digit d lt = same_below-at 16 d refl lt

lower_digit_of : (d e : ℕ) → d < 16 → d ≡ e → slice_index lower_digits d ≡ digit_glyph false e
lower_digit_of d e lt same = lower_digit d lt ∙ ap (λ x. digit_glyph false x) same

-- ---- a number of digits

-- the last k digits of n, before acc
abbrev last_digits : ℕ → ℕ → List ℕ → List ℕ
last_digits zero n acc = acc
last_digits (suc k) n acc = last_digits k (n / 16) (digit_glyph false (n % 16) ∷ acc)

-- n has at most k digits
abbrev HasDigits : ℕ → ℕ → Type 0
HasDigits zero n = n ≡ 0
HasDigits (suc k) n = HasDigits k (n / 16)

replicate_push : (k x : ℕ) (acc : List ℕ) → replicate k x ++ (x ∷ acc) ≡ x ∷ (replicate k x ++ acc)
replicate_push zero x acc = refl
replicate_push (suc k) x acc = ap (λ xs. x ∷ xs) (replicate_push k x acc)

zeros_alone : (k n : ℕ) (acc : List ℕ) → n ≡ 0 → last_digits k n acc ≡ replicate k 48 ++ acc
zeros_alone zero n acc e = refl
zeros_alone (suc k) n acc e =
    let front : n / 16 ≡ 0 = omega arith in
    let last : n % 16 ≡ 0 = omega arith in
    zeros_alone k (n / 16) (digit_glyph false (n % 16) ∷ acc) front
    ∙ ap (λ d. replicate k 48 ++ (digit_glyph false d ∷ acc)) last
    ∙ replicate_push k 48 acc

length-last_digits : (k n : ℕ) (acc : List ℕ) → length (last_digits k n acc) ≡ k + length acc
length-last_digits zero n acc = omega arith
length-last_digits (suc k) n acc = omega (arith, length-last_digits k (n / 16) (digit_glyph false (n % 16) ∷ acc))

-- one digit, and what stands before it
one_more : (j n : ℕ) (acc : List ℕ) (ends : Bool) → (n / 16 == 0) ≡ ends
    → digits_onto (suc j) 16 false n acc
    ≡ (if ends then digit_glyph false (n % 16) ∷ acc else digits_onto j 16 false (n / 16) (digit_glyph false (n % 16) ∷ acc))
one_more j n acc ends e =
    ap (λ (b : Bool). if b then digit_glyph false (n % 16) ∷ acc else digits_onto j 16 false (n / 16) (digit_glyph false (n % 16) ∷ acc)) e

-- the digits of n are its last k after some zeros
abbrev AreLast : ℕ → ℕ → ℕ → List ℕ → Type 0
AreLast k j n acc = (z : ℕ) × (replicate z 48 ++ digits_onto j 16 false n acc ≡ last_digits k n acc)

zeros_before : (k j n : ℕ) (acc : List ℕ) → k < j → HasDigits (suc k) n → AreLast (suc k) j n acc
zeros_before k zero n acc lt fits = absurd (omega arith)
zeros_before zero (suc j) n acc lt fits = (0, one_more j n acc true (ap (λ d. d == 0) fits))
zeros_before (suc k) (suc j) n acc lt fits =
    by (n / 16 == 0) refl (zeros_before k j (n / 16) (digit_glyph false (n % 16) ∷ acc) (omega arith) fits)
  where
    by : (ends : Bool) → (n / 16 == 0) ≡ ends → AreLast (suc k) j (n / 16) (digit_glyph false (n % 16) ∷ acc) → AreLast (suc (suc k)) (suc j) n acc
    by true e rest = (
      suc k,
      ap (λ xs. replicate (suc k) 48 ++ xs) (one_more j n acc true e)
          ∙ sym (zeros_alone (suc k) (n / 16) (digit_glyph false (n % 16) ∷ acc) (eqb-true (n / 16) 0 e)),
    )
    by false e rest =
        (rest.0, ap (λ xs. replicate rest.0 48 ++ xs) (one_more j n acc false e) ∙ rest.1)

padded_to_eight : (ds : List ℕ) → padded_integral (format_spec 32 0 4 8 (2 ^ 64 - 1)) false [] ds ≡ replicate (8 - length ds) 48 ++ ds
unfolding padded_integral char_count
padded_to_eight ds =
    let zeros : 8 - length ds - 0 - 0 ≡ 8 - length ds = omega arith in
    λ i. replicate (zeros i) 48 ++ append-nil ds i

onto_digits : (n : ℕ) → digits_onto 64 16 false n [] ≡ digits 16 false n
unfolding digits
onto_digits n = refl

eight_digits : (n : ℕ) → n < 2 ^ 32 → replicate (8 - length (digits 16 false n)) 48 ++ digits 16 false n ≡ last_digits 8 n []
eight_digits n small =
    let fits : n / 16 / 16 / 16 / 16 / 16 / 16 / 16 / 16 ≡ 0 = omega arith in
    let zeros = zeros_before 7 64 n [] (omega arith) fits in
    let e : replicate zeros.0 48 ++ digits 16 false n ≡ last_digits 8 n []
    = ap (λ xs. replicate zeros.0 48 ++ xs) (sym (onto_digits n)) ∙ zeros.1 in
    let len = ap length e in
    let same : 8 - length (digits 16 false n) ≡ zeros.0
    = omega (arith, len, length-append (replicate zeros.0 48) (digits 16 false n), length-replicate {A = ℕ} zeros.0 48, length-last_digits 8 n []) in
    ap (λ z. replicate z 48 ++ digits 16 false n) same ∙ e

-- the last digits, as the digits of bytes
byte_digits : (n : ℕ) → hex_text n ≡ last_digits 8 n []
unfolding encode_with
byte_digits n =
    let a = lower_digit_of (n / 16777216 % 256 / 16) (n / 16 / 16 / 16 / 16 / 16 / 16 / 16 % 16) (omega arith) (omega arith) in
    let b = lower_digit_of (n / 16777216 % 256 % 16) (n / 16 / 16 / 16 / 16 / 16 / 16 % 16) (omega arith) (omega arith) in
    let c = lower_digit_of (n / 65536 % 256 / 16) (n / 16 / 16 / 16 / 16 / 16 % 16) (omega arith) (omega arith) in
    let d = lower_digit_of (n / 65536 % 256 % 16) (n / 16 / 16 / 16 / 16 % 16) (omega arith) (omega arith) in
    let e = lower_digit_of (n / 256 % 256 / 16) (n / 16 / 16 / 16 % 16) (omega arith) (omega arith) in
    let f = lower_digit_of (n / 256 % 256 % 16) (n / 16 / 16 % 16) (omega arith) (omega arith) in
    let g = lower_digit_of (n % 256 / 16) (n / 16 % 16) (omega arith) (omega arith) in
    let h = lower_digit_of (n % 256 % 16) (n % 16) (omega arith) (omega arith) in
    λ i. a i ∷ b i ∷ c i ∷ d i ∷ e i ∷ f i ∷ g i ∷ h i ∷ []

pub eight_hex_digits : (n : ℕ) → n < 2 ^ 32
    → padded_integral (format_spec 32 0 4 8 (2 ^ 64 - 1)) false [] (digits 16 false n) ≡ hex_text n
eight_hex_digits n small = padded_to_eight (digits 16 false n) ∙ eight_digits n small ∙ sym (byte_digits n)
