-- What stands behind two dashes, without `=`.
use Rattle.std.proofs.Common.{◌≡◌, ◌∙◌, ◌==◌, ◌+◌, ℕ, Bool, false, List, [], ◌∷◌, None, Some, ap, ap₂, sym, inl, inr, refl, arith}
use Rattle.std.proofs.Common.{length, take, take_all}
use Rattle.std.specs.Prelude.{if◌then◌else◌}
use Rattle.std.specs.List.{after_first, list_any, position_or_len}
use Rattle.std.proofs.lemmas.Bool.{cases_Bool}
use Rattle.command_words.specs.Words.{behind_dashes, dashed, equals_sign, name_before, value_behind}

abbrev Text : Type 0
Text = List ℕ

none_passes : (p : ℕ → Bool) (text : Text) → position_or_len p text ≡ length text → list_any p text ≡ false
none_passes p [] whole = refl
none_passes p (x ∷ xs) whole = elim (cases_Bool (p x)) [
  | inl h ↦
      let bad : 0 ≡ length (x ∷ xs) = rw h at whole in
      absurd (omega arith)
  | inr h ↦
      let more : 1 + position_or_len p xs ≡ length (x ∷ xs) = rw h at whole in
      rw h (none_passes p xs (omega arith))
]

whole_name : (text : Text) → position_or_len (λ byte. byte == equals_sign) text ≡ length text → name_before text ≡ text
whole_name text whole = ap (λ (n : ℕ). take n text) whole ∙ take_all (length text) text (omega arith)

no_value : (text : Text) → position_or_len (λ byte. byte == equals_sign) text ≡ length text → value_behind text ≡ None
no_value text whole =
    ap (λ (found : Bool). if found then Some (after_first (λ byte. byte == equals_sign) text) else None)
    (none_passes (λ byte. byte == equals_sign) text whole)

pub behind_dashes-name : (text : Text) → (length text == 0) ≡ false → position_or_len (λ byte. byte == equals_sign) text ≡ length text
    → dashed text None ≡ behind_dashes text
behind_dashes-name [] some whole = cc
behind_dashes-name (first ∷ rest) some whole = sym (ap₂ dashed (whole_name (first ∷ rest) whole) (no_value (first ∷ rest) whole))
