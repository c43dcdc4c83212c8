-- The parts of a match, when only the outputs that are fed are looked at, in order.
use Rattle.std.proofs.Common.{◌≡◌, ◌∙◌, ℕ, ◌<◌, ◌≤◌, ◌↔◌, List, Option, None, Some, length, slice_index_or, refl, sym, inl, inr, arith}
use Rattle.std.proofs.lemmas.Bool.{cases_lt}
use Rattle.std.proofs.lemmas.Option.{none-some}
use Rattle.rotating_pick.specs.PortSets.{Has}
use Rattle.slot_match.specs.declared.matching.Fed.{Fed}
use Rattle.slot_match.specs.declared.matching.Served.{Served}
use Rattle.slot_match.specs.Matches.{fed_of, IsFreeOutput, IsMatch}
use Rattle.slot_match.specs.Parts.{served_of}
use Rattle.slot_match.specs.Steps.{StandsBelow}
use Rattle.slot_match.proofs.PartsBelow.{StandsBelow-all}

-- the parts stand as after the first k outputs, and of the others those that are fed are left
pub record ArePut (matched : List (Option Fed)) (rest : ℕ) (parts : List (Option Served)) (k : ℕ) : Type 0 where
  pub within : k ≤ length matched
  pub left : (j : ℕ) → Has rest j ↔ ((k ≤ j) × (j < length matched) × (IsFreeOutput matched j → ⊥))
  pub each : (i : ℕ) → i < length matched → StandsBelow matched k i (slice_index_or parts i None)

-- outputs that are free add nothing
stands-to : (matched : List (Option Fed)) (k m i : ℕ) (p : Option Served) → k ≤ m → ((j : ℕ) → k ≤ j → j < m → IsFreeOutput matched j)
    → StandsBelow matched k i p → StandsBelow matched m i p
stands-to matched k m i None later free stands = λ j level kind below s. elim (cases_lt j k) [
  | inl early ↦ stands j level kind early s
  | inr late ↦ none-some (record { input = i; level = level; kind = kind }) (sym (free j late below) ∙ s)
]
stands-to matched k m i (Some part) later free stands =
    let early = λ (j level : ℕ) (kind : _) (below : j < m) (s : fed_of matched j ≡ Some (record { input = i; level = level; kind = kind })).
    elim (cases_lt j k) as (λ _. j < k) [
      | inl before ↦ before
      | inr late ↦ absurd (none-some (record { input = i; level = level; kind = kind }) (sym (free j late below) ∙ s))
    ] in
    record {
      some = stands.some;
      outputs = λ j. (
        λ has. let p = (stands.outputs j).0 has in (let lt = p.0 in omega arith, p.1),
        λ p. (stands.outputs j).1 (early j part.level part.kind p.0 p.1, p.1),
      );
      only = λ j level kind below s. stands.only j level kind (early j level kind below s) s;
    }

module _ (matched : List (Option Fed)) (rest : ℕ) (parts : List (Option Served)) (k : ℕ) (put : ArePut matched rest parts k) where
  -- up to the first that is left all others are free
  free-before : (m : ℕ) → m ≤ length matched → ((j : ℕ) → Has rest j → m ≤ j) → (j : ℕ) → k ≤ j → j < m → IsFreeOutput matched j
  free-before m within first j late below = by (fed_of matched j) refl where
    by : (o : Option Fed) → fed_of matched j ≡ o → fed_of matched j ≡ None
    by None is = is
    by (Some f) is =
        let least = first j ((put.left j).1 (late, omega arith, λ none. none-some f (sym none ∙ is))) in
        absurd (omega arith)

  -- up to the first that is left, the parts stand as they were put
  pub stands-before : (o : ℕ) → Has rest o → ((j : ℕ) → Has rest j → o ≤ j) → (i : ℕ) → i < length matched
      → StandsBelow matched o i (slice_index_or parts i None)
  stands-before o member first i i_in =
      let was = (put.left o).0 member in
      let inside = was.1 in
      stands-to matched k o i (slice_index_or parts i None) was.0 (free-before o (omega arith) first) (put.each i i_in)

  -- where none is left, these are the parts
  pub put-all : (n : ℕ) → IsMatch n matched → ((j : ℕ) → Has rest j → ⊥) → (i : ℕ) → i < length matched → slice_index_or parts i None ≡ served_of matched i
  put-all n whole none i i_in =
      let count = whole.count in
      let within = put.within in
      StandsBelow-all n matched whole i (slice_index_or parts i None)
      (stands-to matched k n i (slice_index_or parts i None) (omega arith) (free-before n (omega arith) (λ j has. absurd (none j has))) (put.each i i_in))
