-- What is found in the rows of a parse.
use Rattle.std.proofs.Common.{◌≡◌, ◌∙◌, ◌++◌, ap, sym, true, false, List, [], ◌∷◌, Option, None, Some, is_some, refl, inl, inr}
use Rattle.std.specs.Prelude.{option_map, unwrap_or, if◌then◌else◌, find, option_and_then, slice_get}
use Rattle.std.specs.Str.{bytes_eq}
use Rattle.std.proofs.lemmas.Slice.Eq.{bytes_eq-Decides}
use Rattle.std.proofs.lemmas.Bool.{cases_Bool}
use Rattle.clap.specs.Walk.{Row, Text, has_row, rows_of, with_values, without}
use Rattle.switch_words.specs.LineSteps.{Lookup, first_text, lookup_in}
use Rattle.clap.specs.Matches.{first_value}
use Rattle.clap.specs.declared.parser.matches.Found.{Found}
use Rattle.clap.proofs.WalkLemmas.{first_value-rows}
use Rattle.clap.specs.declared.builder.value_parser.Reading.{Reading}
use Rattle.clap.specs.declared.parser.matches.ValueSource.{ValueSource}

-- with other values of an id
abbrev pub put : Text → List Text → Lookup → Lookup
put id values lookup other = if bytes_eq id other then Some values else lookup other

other_text : (a b : Text) → bytes_eq a b ≡ false → a ≡ b → ⊥
other_text a b h e =
    let bad : true ≡ false = sym ((bytes_eq-Decides a b).1 e) ∙ h in
    cc

-- values that are added to those of an id
pub lookup-with : (id : Text) (how : Reading) (s : ValueSource) (values : List Text) (rows : List Row) (other : Text)
    → lookup_in (with_values id how s values rows) other ≡ put id (unwrap_or (lookup_in rows id) [] ++ values) (lookup_in rows) other
lookup-with id how s values [] other = elim (cases_Bool (bytes_eq id other)) [
  | inl h ↦ rw h refl
  | inr h ↦ rw h refl
]
lookup-with id how s values (r ∷ rs) other = elim (cases_Bool (bytes_eq r.id id)) [
  | inl h ↦
      let same : bytes_eq id other ≡ bytes_eq r.id other = ap (λ (x : Text). bytes_eq x other) (sym ((bytes_eq-Decides r.id id).0 h)) in
      elim (cases_Bool (bytes_eq r.id other)) [
        | inl k ↦ rw (h, same, k) refl
        | inr k ↦ rw (h, same, k) refl
      ]
  | inr h ↦ elim (cases_Bool (bytes_eq r.id other)) [
    | inl k ↦
        let apart : bytes_eq id other ≡ false = elim (cases_Bool (bytes_eq id other)) [
          | inl e ↦ absurd (other_text r.id id h ((bytes_eq-Decides r.id other).0 k ∙ sym ((bytes_eq-Decides id other).0 e)))
          | inr e ↦ e
        ] in
        rw (h, k, apart) refl
    | inr k ↦ rw (h, k) (lookup-with id how s values rs other)
  ]
]

-- a row is there where its id is found
pub has_row-lookup : (id : Text) (rows : List Row) → has_row id rows ≡ is_some (lookup_in rows id)
has_row-lookup id [] = refl
has_row-lookup id (r ∷ rs) = elim (cases_Bool (bytes_eq r.id id)) [
  | inl h ↦ rw h refl
  | inr h ↦ rw h (has_row-lookup id rs)
]

-- nothing is taken out where there is no row
pub without-none : (id : Text) (rows : List Row) → lookup_in rows id ≡ None → without id rows ≡ rows
without-none id [] none = refl
without-none id (r ∷ rs) none = elim (cases_Bool (bytes_eq r.id id)) [
  | inl h ↦
      let bad : ◌≡◌ {A = Option (List Text)} (Some r.values) None = rw h at none in
      cc
  | inr h ↦ rw h (ap (λ (x : List Row). r ∷ x) (without-none id rs (rw h at none)))
]

values_first : (values : List Text) → slice_get values 0 ≡ first_text (Some values)
values_first [] = refl
values_first (v ∷ vs) = refl

row_first : (o : Option Row) → option_and_then (λ r. slice_get r.values 0) o ≡ first_text (option_map (λ r. r.values) o)
row_first None = refl
row_first (Some r) = values_first r.values

pub first_text-is : (f : Found) (id : Text) → first_value f id ≡ first_text (lookup_in (rows_of f) id)
first_text-is f id = first_value-rows f id ∙ row_first (find (λ (r : Row). bytes_eq r.id id) (rows_of f))
