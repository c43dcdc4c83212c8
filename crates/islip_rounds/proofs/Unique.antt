-- A slot leaves no choice: its match, its numbers and its pointers follow from what is asked and from the
-- pointers before it.
use Rattle.std.proofs.Common.{◌≡◌, ℕ, ◌⊎◌, ◌∙◌, List, [], ◌∷◌, Option, None, Some, length, map, slice_index, slice_index_or, refl, sym, inl, inr, arith}
use Rattle.std.proofs.lemmas.Bool.{cases_lt}
use Rattle.std.proofs.lemmas.List.{get_or_past}
use Rattle.std.proofs.lemmas.Option.{none-some}
use Rattle.rotating_pick.proofs.First.{IsFirstFrom-along}
use Rattle.islip_rounds.specs.declared.unicast.UniPointers.{UniPointers}
use Rattle.islip_rounds.specs.Numbers.{last_of, matched_count}
use Rattle.islip_rounds.specs.Rounds.{Feeds, Requests, Grants, Accepts, IsRound, AreRounds}
use Rattle.islip_rounds.specs.Slots.{AreMoved}
use Rattle.islip_rounds.proofs.Counting.{count_same}
use Rattle.islip_rounds.proofs.Maximal.{free_or_fed, fed_below}

-- two matches have the same at each output
abbrev pub AreSame : List (Option ℕ) → List (Option ℕ) → Type 0
AreSame a b = (j : ℕ) → slice_index_or a j None ≡ slice_index_or b j None

-- all pairs of a match are in another
abbrev AreIn : List (Option ℕ) → List (Option ℕ) → Type 0
AreIn a b = (i j : ℕ) → Feeds a i j → Feeds b i j

back : (a b : List (Option ℕ)) → AreSame a b → AreSame b a
back a b same j = sym (same j)

same_option : (o p : Option ℕ) → ((x : ℕ) → o ≡ Some x → p ≡ Some x) → ((x : ℕ) → p ≡ Some x → o ≡ Some x) → o ≡ p
same_option None None there here = refl
same_option None (Some y) there here = here y refl
same_option (Some x) p there here = sym (there x refl)

module _ (n : ℕ) (asks : List ℕ) (pointers : UniPointers) where
  requests : (a b : List (Option ℕ)) → AreSame a b → (i j : ℕ) → Requests asks a i j → Requests asks b i j
  requests a b same i j r = (λ k feeds. r.0 k (same k ∙ feeds), r.1)

  grants : (a b : List (Option ℕ)) → AreSame a b → (i j : ℕ) → Grants n asks pointers a i j → Grants n asks pointers b i j
  grants a b same i j g = record {
    output_in = g.output_in;
    output_free = sym (same j) ∙ g.output_free;
    first = IsFirstFrom-along n (slice_index pointers.grant j) (λ x. Requests asks a x j) (λ x. Requests asks b x j) i
        (λ x x_in. (requests a b same x j, requests b a (back a b same) x j)) g.first;
  }

  accepts : (a b : List (Option ℕ)) → AreSame a b → (i j : ℕ) → Accepts n asks pointers a i j → Accepts n asks pointers b i j
  accepts a b same i j = IsFirstFrom-along n (slice_index pointers.accept i) (λ y. Grants n asks pointers a i y) (λ y. Grants n asks pointers b i y) j
      (λ y y_in. (grants a b same i y, grants b a (back a b same) i y))

  after_round : (a b c d : List (Option ℕ)) → AreSame a b → IsRound n asks pointers a c → IsRound n asks pointers b d → AreIn c d
  after_round a b c d same r s i j feeds = (s i j).1 (elim ((r i j).0 feeds) [ inl old ↦ inl (sym (same j) ∙ old) | inr new ↦ inr (accepts a b same i j new) ])

  round_only : (a b c d : List (Option ℕ)) → AreSame a b → IsRound n asks pointers a c → IsRound n asks pointers b d → AreSame c d
  round_only a b c d same r s j =
      same_option (slice_index_or c j None) (slice_index_or d j None) (λ i feeds. after_round a b c d same r s i j feeds)
      (λ i feeds. after_round b a d c (back a b same) s r i j feeds)

  pub last_only : (a b : List (Option ℕ)) (steps others : List (List (Option ℕ))) → AreSame a b → length steps ≡ length others
      → AreRounds n asks pointers a steps → AreRounds n asks pointers b others → AreSame (last_of a steps) (last_of b others)
  last_only a b [] [] same long r s = same
  last_only a b [] (d ∷ others) same long r s = absurd (omega arith)
  last_only a b (c ∷ steps) [] same long r s = absurd (omega arith)
  last_only a b (c ∷ steps) (d ∷ others) same long r s = last_only c d steps others (round_only a b c d same r.0 s.0) (omega arith) r.1 s.1

  pub counts_only : (a b : List (Option ℕ)) (steps others : List (List (Option ℕ))) → AreSame a b → length steps ≡ length others
      → AreRounds n asks pointers a steps → AreRounds n asks pointers b others → map matched_count steps ≡ map matched_count others
  counts_only a b [] [] same long r s = refl
  counts_only a b [] (d ∷ others) same long r s = absurd (omega arith)
  counts_only a b (c ∷ steps) [] same long r s = absurd (omega arith)
  counts_only a b (c ∷ steps) (d ∷ others) same long r s =
      let next = round_only a b c d same r.0 s.0 in
      let here = count_same c d next in
      let rest = counts_only c d steps others next (omega arith) r.1 s.1 in
      λ t. here t ∷ rest t

  pub first_only : (a b : List (Option ℕ)) (steps others : List (List (Option ℕ))) → AreSame a b → length steps ≡ length others
      → AreRounds n asks pointers a steps → AreRounds n asks pointers b others → AreSame (slice_index_or steps 0 a) (slice_index_or others 0 b)
  first_only a b [] [] same long r s = same
  first_only a b [] (d ∷ others) same long r s = absurd (omega arith)
  first_only a b (c ∷ steps) [] same long r s = absurd (omega arith)
  first_only a b (c ∷ steps) (d ∷ others) same long r s = round_only a b c d same r.0 s.0

-- some output is fed by the input, or none is
fed_or_none : (fed : List (Option ℕ)) (i : ℕ) → ((j : ℕ) × Feeds fed i j) ⊎ ((j : ℕ) → Feeds fed i j → ⊥)
fed_or_none fed i = elim (fed_below fed (length fed) i) [
  | inl found ↦ inl found
  | inr none ↦ inr (λ j feeds. elim
      (cases_lt j (length fed)) [ inl below ↦ none j below feeds | inr past ↦ none-some i (sym (get_or_past fed j None past) ∙ feeds) ])
]

module _ (n : ℕ) (first other : List (Option ℕ)) (same : AreSame first other) (before after later : UniPointers) (r : AreMoved n first before after)
    (s : AreMoved n other before later) where
  pub grant_only : (j : ℕ) → slice_index after.grant j ≡ slice_index later.grant j
  grant_only j = elim (free_or_fed (slice_index_or first j None)) [
    | inr by ↦ r.granted by.0 j by.1 ∙ sym (s.granted by.0 j (sym (same j) ∙ by.1))
    | inl free ↦
        r.grant_stays j (λ i feeds. none-some i (sym free ∙ feeds))
        ∙ sym (s.grant_stays j (λ i feeds. none-some i (sym free ∙ (same j ∙ feeds))))
  ]

  pub accept_only : (i : ℕ) → slice_index after.accept i ≡ slice_index later.accept i
  accept_only i = elim (fed_or_none first i) [
    | inl found ↦ r.accepted i found.0 found.1 ∙ sym (s.accepted i found.0 (sym (same found.0) ∙ found.1))
    | inr none ↦ r.accept_stays i none ∙ sym (s.accept_stays i (λ j feeds. none j (same j ∙ feeds)))
  ]
