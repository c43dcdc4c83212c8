-- The forms of words.
use Rattle.std.proofs.Common.{◌≡◌, ◌==◌, ap, true, false, [], ◌∷◌, ◌++◌, None, Some, refl, inl, inr, ℕ, codes, add-one, one-add}
use Rattle.std.proofs.lemmas.Bool.{eqb-true, cases_Bool}
use Rattle.std.specs.List.{after_first, before_first, list_any}
use Rattle.switch_words.specs.Parts.{closing, option, name, refused, equals_sign, behind_dashes, word_of}
use Rattle.word_grammar.specs.Grammar.{IsPlain, Text}

-- a text, cut at its first `=`
cut : (text : Text) → list_any (λ b. b == equals_sign) text ≡ true
    → text ≡ before_first (λ b. b == equals_sign) text ++ (codes "=" ++ after_first (λ b. b == equals_sign) text)
cut [] h =
    let bad : false ≡ true = h in
    cc
cut (b ∷ rest) h = elim (cases_Bool (b == 61)) [
  | inl e ↦ rw (e, eqb-true b 61 e) refl
  | inr e ↦
      let there = rw (add-one) at (cut rest (rw e at h)) in
      rw (e, one-add, add-one) (ap (λ (t : Text). b ∷ t) there)
]

whole : (text : Text) → list_any (λ b. b == equals_sign) text ≡ false → before_first (λ b. b == equals_sign) text ≡ text
whole [] h = refl
whole (b ∷ rest) h = elim (cases_Bool (b == 61)) [
  | inl e ↦
      let bad : true ≡ false = rw e at h in
      cc
  | inr e ↦ rw (e, one-add) (ap (λ (t : Text). b ∷ t) (whole rest (rw e at h)))
]

pub data Form (word : Text) : Type 0 where
  closes : word ≡ codes "--" → word_of word ≡ closing → Form word
  longs : (id : Text) → word ≡ codes "--" ++ id → word_of word ≡ option id None → Form word
  valued : (id text : Text) → word ≡ codes "--" ++ (id ++ (codes "=" ++ text)) → word_of word ≡ option id (Some text) → Form word
  plains : word_of word ≡ name → Form word
  others : word_of word ≡ refused → Form word

dashed : (text : Text) → Form (codes "--" ++ text)
dashed [] = closes refl refl
dashed (b ∷ rest) = elim (cases_Bool (list_any (λ x. x == equals_sign) (b ∷ rest))) [
  | inl e ↦ valued (before_first (λ x. x == equals_sign) (b ∷ rest)) (after_first (λ x. x == equals_sign) (b ∷ rest))
      (ap (λ (t : Text). codes "--" ++ t) (cut (b ∷ rest) e)) (rw e refl)
  | inr e ↦ longs (b ∷ rest) refl (rw e (ap (λ (t : Text). option t None) (whole (b ∷ rest) e)))
]

pub form : (word : Text) → Form word
form [] = plains refl
form (a ∷ []) = plains refl
form (a ∷ b ∷ rest) = elim (cases_Bool (a == 45)) [
  | inl h ↦ elim (cases_Bool (b == 45)) [
    | inl k ↦ rw (eqb-true a 45 h, eqb-true b 45 k) (dashed rest)
    | inr k ↦ others (rw (h, k) refl)
  ]
  | inr h ↦ plains (rw h refl)
]

pub plain_name : (word : Text) → IsPlain word → word_of word ≡ name
plain_name [] plain = refl
plain_name (a ∷ []) plain = refl
plain_name (a ∷ b ∷ rest) plain = elim (cases_Bool (a == 45)) [
  | inl h ↦
      let bad : b ∷ rest ≡ [] = plain (b ∷ rest) (ap (λ (x : ℕ). x ∷ b ∷ rest) (eqb-true a 45 h)) in
      cc
  | inr h ↦ rw h refl
]

not_name : (rest : Text) → behind_dashes rest ≡ name → ⊥
not_name [] h = cc
not_name (b ∷ rest) h = cc

dashed_name : (b : ℕ) (rest : Text) → word_of (45 ∷ b ∷ rest) ≡ name → ⊥
dashed_name b rest h = elim (cases_Bool (b == 45)) [
  | inl k ↦ not_name rest (rw k at h)
  | inr k ↦
      let bad : refused ≡ name = rw k at h in
      cc
]

pub name_plain : (word : Text) → word_of word ≡ name → IsPlain word
name_plain [] is rest h = cc
name_plain (a ∷ []) is rest h = cc
name_plain (a ∷ b ∷ more) is rest h =
    let first : a ≡ 45 = cc in
    absurd (dashed_name b more (rw first at is))
