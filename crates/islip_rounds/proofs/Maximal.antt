-- A free input that asks a free output makes a round add a pair, so that a round that adds none leaves a
-- maximal match.
use Rattle.std.proofs.Common.{◌≡◌, ℕ, ◌<◌, ◌≤◌, ◌⊎◌, ◌∙◌, List, Option, None, Some, length, slice_index, slice_index_or, refl, sym, subst, inl, inr}
use Rattle.std.proofs.Common.{arith}
use Rattle.std.specs.Int.{bit_at}
use Rattle.std.proofs.lemmas.Bool.{cases_eq, cases_lt}
use Rattle.std.proofs.lemmas.Option.{same_Some, none-some}
use Rattle.rotating_pick.specs.PortSets.{Has}
use Rattle.rotating_pick.proofs.Picking.{Decides, least, IsFirstFrom-some, IsFirstFrom-decides}
use Rattle.rotating_pick.proofs.First.{IsFirstFrom-only}
use Rattle.islip_rounds.specs.declared.unicast.UniPointers.{UniPointers}
use Rattle.islip_rounds.specs.Numbers.{matched_count}
use Rattle.islip_rounds.specs.Rounds.{Feeds, IsFreeInput, IsFreeOutput, Requests, Grants, Accepts, IsRound, IsMaximal}
use Rattle.islip_rounds.proofs.Counting.{count_fewer, more_or_same}

-- whether an output is fed, and whether by this input
pub free_or_fed : (o : Option ℕ) → (o ≡ None) ⊎ ((x : ℕ) × (o ≡ Some x))
free_or_fed None = inl refl
free_or_fed (Some x) = inr (x, refl)

feeds_or : (o : Option ℕ) (i : ℕ) → Decides (o ≡ Some i)
feeds_or None i = inr (none-some i)
feeds_or (Some x) i = elim (cases_eq x i) [ inl same ↦ inl (λ t. Some (same t)) | inr other ↦ inr (λ e. other (same_Some x i e)) ]

-- some output below m is fed by the input, or none is
pub fed_below : (fed : List (Option ℕ)) (m i : ℕ) → ((j : ℕ) × Feeds fed i j) ⊎ ((j : ℕ) → j < m → Feeds fed i j → ⊥)
fed_below fed m i = elim (least (Feeds fed i) (λ j. feeds_or (slice_index_or fed j None) i) m) [ inl found ↦ inl (found.0, found.2) | inr none ↦ inr none ]

module _ (n : ℕ) (asks : List ℕ) (pointers : UniPointers) (grant_in : (k : ℕ) → k < n → slice_index pointers.grant k < n)
    (accept_in : (k : ℕ) → k < n → slice_index pointers.accept k < n) (fed : List (Option ℕ)) (within : (i j : ℕ) → Feeds fed i j → (i < n) × (j < n)) where
  -- whether an input is free
  free_input_or : (i : ℕ) → Decides (IsFreeInput fed i)
  free_input_or i = elim (fed_below fed n i) [
    | inl found ↦ inr (λ free. free found.0 found.1)
    | inr none ↦ inl (λ j feeds. none j ((within i j feeds).1) feeds)
  ]

  -- whether an input asks an output
  Requests-decides : (j x : ℕ) → Decides (Requests asks fed x j)
  Requests-decides j x = elim (cases_eq (bit_at (slice_index asks x) j) 1) [
    | inr absent ↦ inr (λ requests. absent requests.1)
    | inl has ↦ elim (free_input_or x) [ inl free ↦ inl (free, has) | inr busy ↦ inr (λ requests. busy requests.0) ]
  ]

  -- whether an output grants an input
  Grants-decides : (x y : ℕ) → Decides (Grants n asks pointers fed x y)
  Grants-decides x y = elim (cases_lt y n) [
    | inr beyond ↦ inr (λ grants. absurd (omega (arith, grants.output_in)))
    | inl y_in ↦ elim (free_or_fed (slice_index_or fed y None)) [
      | inr by ↦ inr (λ grants. none-some by.0 (sym grants.output_free ∙ by.1))
      | inl free ↦ elim (IsFirstFrom-decides n (slice_index pointers.grant y) (λ i. Requests asks fed i y) (Requests-decides y) (grant_in y y_in) x) [
        | inl first ↦ inl (record { output_in = y_in; output_free = free; first = first })
        | inr other ↦ inr (λ grants. other grants.first)
      ]
    ]
  ]

  -- where a free input asks a free output, some input accepts
  pub some_accepts : (i j : ℕ) → i < n → j < n → IsFreeInput fed i → IsFreeOutput fed j → Has (slice_index asks i) j → (x : ℕ) × (y : ℕ)
      × Accepts n asks pointers fed x y
  some_accepts i j i_in j_in free vacant has =
      let granted = IsFirstFrom-some n (slice_index pointers.grant j) (λ x. Requests asks fed x j) (Requests-decides j) (grant_in j j_in) i i_in (free, has) in
      let x = granted.0 in
      let grants : Grants n asks pointers fed x j = record { output_in = j_in; output_free = vacant; first = granted.1 } in
      let accepted = IsFirstFrom-some n (slice_index pointers.accept x) (λ y. Grants n asks pointers fed x y) (Grants-decides x)
      (accept_in x granted.1.below) j j_in grants in
      (x, accepted.0, accepted.1)

  -- a round that adds nothing began with a maximal match
  pub IsMaximal-from_round : IsRound n asks pointers fed fed → IsMaximal n asks fed
  IsMaximal-from_round round i j i_in j_in free vacant has =
      let accepted = some_accepts i j i_in j_in free vacant has in
      let x = accepted.0 in
      let y = accepted.1 in
      none-some x (sym accepted.2.member.output_free ∙ (round x y).1 (inr accepted.2))

  beyond : (j : ℕ) → n ≤ j → slice_index_or fed j None ≡ None
  beyond j above = elim (free_or_fed (slice_index_or fed j None)) [ inl free ↦ free | inr by ↦ let inside = (within by.0 j by.1).1 in absurd (omega arith) ]

  -- so did one of which n outputs are matched
  pub IsMaximal-full : n ≤ matched_count fed → IsMaximal n asks fed
  IsMaximal-full full i j i_in j_in free vacant has = let fewer = count_fewer fed n j beyond j_in vacant in absurd (omega arith)

module _ (n : ℕ) (asks : List ℕ) (pointers : UniPointers) (before after : List (Option ℕ)) (round : IsRound n asks pointers before after) where
  -- a round adds to the match, or leaves it
  adds : length before ≡ length after → (matched_count before < matched_count after) ⊎ (before ≡ after)
  adds long = more_or_same before after long (λ j i feeds. (round i j).1 (inl feeds))

  -- and no round changes it then
  pub settles : length before ≡ length after → matched_count after ≤ matched_count before → IsRound n asks pointers after after
  settles long few = elim (adds long) [ inl grows ↦ absurd (omega arith) | inr same ↦ subst (λ m. IsRound n asks pointers m after) same round ]

  -- after a round no input has two outputs, where none had before
  pub once_after : ((i j k : ℕ) → Feeds before i j → Feeds before i k → j ≡ k) → ((i : ℕ) → i < n → slice_index pointers.accept i < n) → (i j k : ℕ)
      → Feeds after i j → Feeds after i k → j ≡ k
  once_after once accept_in i j k feeds also = elim ((round i j).0 feeds) [
    | inl old ↦ elim ((round i k).0 also) [
      | inl same ↦ once i j k old same
      | inr accepts ↦ absurd (accepts.member.first.member.0 j old)
    ]
    | inr accepts ↦ elim ((round i k).0 also) [
      | inl old ↦ absurd (accepts.member.first.member.0 k old)
      | inr other ↦ IsFirstFrom-only n (slice_index pointers.accept i) (λ y. Grants n asks pointers before i y) j k
          (accept_in i accepts.member.first.below) accepts other
    ]
  ]
