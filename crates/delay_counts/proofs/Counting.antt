-- Counts of some delays, and of one more.
use Rattle.std.proofs.Common.{◌≡◌, ◌∙◌, ℕ, ◌+◌, ◌-◌, ◌*◌, ◌^◌, ◌<◌, ◌≤◌, ◌==◌, Bool, if◌then◌else◌, max, List, [], ◌∷◌, ◌++◌}
use Rattle.std.proofs.Common.{length, slice_index, slice_index_or, slice_set, refl, sym, ap, inl, inr, arith}
use Rattle.std.specs.List.{All, count_by}
use Rattle.std.proofs.lemmas.Bool.{cases_eq, cond-false, cond-true, eq-eqb, ne_eqb}
use Rattle.std.proofs.lemmas.List.{get_or-append_right, get_or_append_left, get_or-set_other, get_or-set_same, length-set, length_push}
use Rattle.std.proofs.lemmas.List.Sums.{sum_by-le, sum_by_push}
use Rattle.std_lemmas.proofs.Bools.{one_if-le}
use Rattle.delay_counts.specs.Delays.{greatest}
use Rattle.delay_counts.specs.CountSteps.{Counts, HasCounted, place_count, place_of}

-- ---- a delay more
pub greatest-more : (delays : List ℕ) (delay : ℕ) → greatest (delays ++ delay ∷ []) ≡ max (greatest delays) delay
greatest-more [] delay = omega arith
greatest-more (first ∷ delays) delay = let rest = greatest-more delays delay in omega arith

count-more : (test : ℕ → Bool) (delays : List ℕ) (delay : ℕ)
    → count_by test (delays ++ delay ∷ []) ≡ count_by test delays + (if test delay then 1 else 0)
count-more test delays delay = sum_by_push (λ x. if test x then 1 else 0) delays delay

All-more : (P : ℕ → Type 0) (delays : List ℕ) (delay : ℕ) → All P delays → P delay → All P (delays ++ delay ∷ [])
All-more P delays delay all one = λ k d inside. elim (cases_eq k (length delays)) [
  | inl last ↦
      let e : k - length delays ≡ 0 = omega arith in
      rw (get_or-append_right delays (delay ∷ []) (length delays) k d refl (omega arith), e) one
  | inr before ↦
      let below : k < length delays = omega (arith, length_push delays delay) in
      rw (get_or_append_left delays (delay ∷ []) d k below) (all k d below)
]

-- before a delay was counted
pub HasCounted-none : (numbers : List ℕ) → length numbers ≡ place_count → ((place : ℕ) → slice_index numbers place ≡ 0)
    → HasCounted (record { numbers = numbers; total = 0; slots = 0; longest = 0 }) []
HasCounted-none numbers long none = record {
  short = λ k d inside. absurd (omega arith);
  places = long;
  numbers = λ place inside. none place;
  total = refl;
  few = omega arith;
  slots = refl;
  longest = refl;
}

module _ (counts : Counts) (delays : List ℕ) (has : HasCounted counts delays) where
  -- what is counted at a place is a part of all
  pub number-le : (place : ℕ) → place < place_count → slice_index counts.numbers place ≤ counts.total
  number-le place inside =
      let part = sum_by-le (λ x. if place_of x == place then 1 else 0) 1 delays (λ k d _. one_if-le (place_of (slice_index_or delays k d) == place)) in
      omega (arith, has.numbers place inside, part, has.total)

  pub slots-le : counts.slots ≤ 2 ^ 32 * counts.total
  slots-le =
      let all = sum_by-le (λ x. x) (2 ^ 32) delays (λ k d inside. let short = has.short k d inside in omega arith) in
      omega (arith, has.slots, has.total, all)

  -- one more
  number-more : (delay place : ℕ) → place < place_count → place_of delay < place_count
      → slice_index (slice_set counts.numbers (place_of delay) (slice_index counts.numbers (place_of delay) + 1)) place
      ≡ count_by (λ x. place_of x == place) (delays ++ delay ∷ [])
  number-more delay place inside own_inside = elim (cases_eq place (place_of delay)) [
    | inl same ↦
        let counted : ◌≡◌ {A = ℕ} (if place_of delay == place then 1 else 0) 1 = cond-true (place_of delay == place) 1 0 (eq-eqb (place_of delay) place (sym same)) in
        let set_is : slice_index (slice_set counts.numbers (place_of delay) (slice_index counts.numbers (place_of delay) + 1)) place
        ≡ slice_index counts.numbers (place_of delay) + 1 =
        ap (slice_index (slice_set counts.numbers (place_of delay) (slice_index counts.numbers (place_of delay) + 1))) same
        ∙ get_or-set_same counts.numbers (place_of delay) (slice_index counts.numbers (place_of delay) + 1) 0 (omega (arith, has.places)) in
        let was : slice_index counts.numbers (place_of delay) ≡ count_by (λ x. place_of x == place) delays =
        ap (slice_index counts.numbers) (sym same) ∙ has.numbers place inside in
        omega (arith, set_is, was, counted, count-more (λ x. place_of x == place) delays delay)
    | inr other ↦
        let none : ◌≡◌ {A = ℕ} (if place_of delay == place then 1 else 0) 0 =
        cond-false (place_of delay == place) 1 0 (ne_eqb (place_of delay) place (λ e. other (sym e))) in
        omega (
          arith,
          get_or-set_other counts.numbers (place_of delay) place (slice_index counts.numbers (place_of delay) + 1) 0 other,
          has.numbers place inside,
          none,
          count-more (λ x. place_of x == place) delays delay,
        )
  ]

  pub HasCounted-more : (delay : ℕ) → delay < 2 ^ 32 → place_of delay < place_count → counts.total < 1099511627776
      → HasCounted (record {
        numbers = slice_set counts.numbers (place_of delay) (slice_index counts.numbers (place_of delay) + 1);
        total = counts.total + 1;
        slots = counts.slots + delay;
        longest = max counts.longest delay;
      }) (delays ++ delay ∷ [])
  HasCounted-more delay short inside few = record {
    short = All-more (λ x. x < 2 ^ 32) delays delay has.short short;
    places = length-set counts.numbers (place_of delay) (slice_index counts.numbers (place_of delay) + 1) ∙ has.places;
    numbers = λ place below. number-more delay place below inside;
    total = omega (arith, has.total, length_push delays delay);
    few = omega arith;
    slots = omega (arith, has.slots, sum_by_push (λ x. x) delays delay);
    longest = ap (λ n. max n delay) has.longest ∙ sym (greatest-more delays delay);
  }
