-- What is read of an output is spelled by its two bytes, the input that feeds it and the rank of its level and kind.
use Rattle.std.proofs.Common.{◌≡◌, ℕ, ◌+◌, ◌*◌, ◌/◌, ◌%◌, ◌<◌, ◌≤◌, ◌==◌, ◌||◌, ◌∙◌, Bool, true, false, nat_lt, ltb-true}
use Rattle.std.proofs.Common.{List, [], ◌∷◌, ◌++◌, Option, None, Some, sym, ap, inl, inr, arith, if◌then◌else◌}
use Rattle.std.proofs.lemmas.Bool.{cases_Bool, cases_lt, cond-true, cond-false}
use Rattle.std.proofs.lemmas.Bool.Decides.{Decides-eqb}
use Rattle.rotating_pick.specs.declared.kinds.Kind.TheVariants.{Uni, Multi}
use Rattle.slot_match.specs.declared.matching.Fed.{Fed}
use Rattle.journal_check.specs.declared.fields.Field.TheVariants.{Input, Rank}
use Rattle.journal_check.specs.Fields.{allows, is_from, no_input, number_in}
use Rattle.journal_check.specs.Files.{fed_by, output_in}
use Rattle.journal_check.specs.Texts.{rank_of, output_text}
use Rattle.journal_check.proofs.NumberReads.{from_bounds}
use Rattle.journal_check.proofs.Spelled.{one_byte}
use Rattle.journal_check.proofs.NumbersSpelled.{AreBytes, Spells, spells_on, ends_here, IsSpelled, number_spelled}
use Rattle.journal_check.proofs.RowsSpelled.{two_bytes}

-- The level and the kind that are read of a rank have that rank.
rank_spelled : (rank : ℕ) → rank_of (rank / 2) (if rank % 2 == 0 then Uni else Multi) ≡ rank
rank_spelled rank = elim (cases_Bool (rank % 2 == 0)) [
  | inl is_even ↦
      let even : rank % 2 ≡ 0 = (Decides-eqb (rank % 2) 0).0 is_even in
      ap (rank_of (rank / 2)) (cond-true (rank % 2 == 0) Uni Multi is_even) ∙ twice even
  | inr is_odd ↦ ap (rank_of (rank / 2)) (cond-false (rank % 2 == 0) Uni Multi is_odd) ∙ twice_more (odd is_odd)
] where
  odd : (rank % 2 == 0) ≡ false → rank % 2 ≡ 1
  odd is_odd = elim (cases_lt (rank % 2) 1) [
    | inl below ↦ absurd
        (let is_even : (rank % 2 == 0) ≡ true = (Decides-eqb (rank % 2) 0).1 (omega arith) in
        let both : true ≡ false = sym is_even ∙ is_odd in cc)
    | inr above ↦ omega arith
  ]

  twice : rank % 2 ≡ 0 → 2 * (rank / 2) ≡ rank
  twice even = omega arith

  twice_more : rank % 2 ≡ 1 → 2 * (rank / 2) + 1 ≡ rank
  twice_more one = omega arith

-- A free output has the rank 0.
free_rank : (input rank : ℕ) → (input == no_input) ≡ true → allows (Rank input) rank ≡ true → rank ≡ 0
free_rank input rank free allowed = (Decides-eqb rank 0).0 (sym (cond-true (input == no_input) (rank == 0) (is_from 0 7 rank) free) ∙ allowed)

-- The two bytes of an output are the text of what is read of them.
fed_spelled : (input rank : ℕ) → allows (Rank input) rank ≡ true → input ∷ rank ∷ [] ≡ output_text (fed_by input rank)
fed_spelled input rank allowed =
    let some : Option Fed = Some (record { input = input; level = rank / 2; kind = (if rank % 2 == 0 then Uni else Multi) }) in
    elim (cases_Bool (input == no_input)) [
      | inl free ↦
          let byte : input ≡ 255 = (Decides-eqb input 255).0 free in
          ap (λ (first : ℕ). first ∷ rank ∷ []) byte
          ∙ ap (λ (second : ℕ). 255 ∷ second ∷ []) (free_rank input rank free allowed)
          ∙ ap output_text (sym (cond-true (input == no_input) None some free))
      | inr fed ↦
          ap (λ (second : ℕ). input ∷ second ∷ []) (sym (rank_spelled rank))
          ∙ ap output_text (sym (cond-false (input == no_input) None some fed))
    ]

-- The rank that an output may have is a byte.
rank_fits : (input rank : ℕ) → allows (Rank input) rank ≡ true → rank < 256
rank_fits input rank allowed = elim (cases_Bool (input == no_input)) [
  | inl free ↦ let none = free_rank input rank free allowed in omega arith
  | inr fed ↦
      let most = (from_bounds 0 7 rank (sym (cond-false (input == no_input) (rank == 0) (is_from 0 7 rank) fed) ∙ allowed)).1 in
      omega arith
]

-- The input that an output of n ports may have is a byte.
input_fits : (n input : ℕ) → n ≤ 64 → allows (Input n) input ≡ true → input < 256
input_fits n input few allowed = elim (cases_Bool (nat_lt input n)) [
  | inl within ↦ let below : input < n = ltb-true input n within in omega arith
  | inr beyond ↦
      let free : input ≡ 255 = (Decides-eqb input 255).0 (sym (ap (λ (is_port : Bool). is_port || (input == no_input)) beyond) ∙ allowed) in
      omega arith
]

-- What is read as an output of n ports is spelled.
pub output_spelled : (n : ℕ) → n ≤ 64 → (bytes : List ℕ) → AreBytes bytes
    → Spells (λ (fed : Option Fed) text. text ≡ output_text fed) bytes (output_in n bytes)
unfolding output_in
output_spelled n few bytes are =
    spells_on (IsSpelled (Input n)) (λ (fed : Option Fed) text. text ≡ output_text fed) bytes (number_in (Input n) bytes) _ are
    (number_spelled (Input n) bytes are) (λ input input_text more more_are input_is.
    spells_on (IsSpelled (Rank input)) (λ (fed : Option Fed) text. input_text ++ text ≡ output_text fed) more (number_in (Rank input) more) _ more_are
    (number_spelled (Rank input) more more_are) (λ rank rank_text rest rest_are rank_is.
    ends_here (λ (fed : Option Fed) text. input_text ++ (rank_text ++ text) ≡ output_text fed) (fed_by input rank) rest
    (two_bytes input rank input_text rank_text [] (input_is.0 ∙ one_byte input (input_fits n input few input_is.1))
    (rank_is.0 ∙ one_byte rank (rank_fits input rank rank_is.1))
    ∙ fed_spelled input rank rank_is.1)))
