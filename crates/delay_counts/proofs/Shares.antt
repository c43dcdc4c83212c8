-- Up to which number a share of some delays is counted, and which numbers are counted at all.
use Rattle.std.proofs.Common.{◌≡◌, ◌≢◌, ◌∙◌, ◌⊎◌, ℕ, zero, suc, ◌+◌, ◌-◌, ◌*◌, ◌^◌, ◌<◌, ◌≤◌, ◌==◌, Bool, true, false, if◌then◌else◌, nat_lt, nat_le, List, [], ◌∷◌}
use Rattle.std.proofs.Common.{Option, Some, None, length, slice_index, slice_index_or, take, refl, sym, ap, inl, inr, arith}
use Rattle.std.specs.Option.{unwrap_or}
use Rattle.std.specs.List.{All, count_by, filter_map, range_with_len, sum}
use Rattle.std.proofs.lemmas.Bool.{cases_eq, cases_lt, cond-false, cond-true, eq-eqb, le-leb, le-ltb, leb-true, lt-leb, lt-ltb, ne_eqb, eqb-true}
use Rattle.std.proofs.lemmas.List.{get_or_read}
use Rattle.std.proofs.lemmas.Nat.{mul-le}
use Rattle.std.proofs.lemmas.List.Sums.{sum_by-cons, sum_by-le, sum_by_more}
use Rattle.std_lemmas.proofs.Bools.{one_if-le}
use Rattle.std_lemmas.proofs.Sums.{sum_by-none, sum_by-plus, sum_by-same}
use Rattle.delay_counts.specs.declared.counts.DelayCount.{DelayCount}
use Rattle.delay_counts.specs.Delays.{count_of, counted_as, counts_of, greatest, number_at, number_up_to, percentile}
use Rattle.delay_counts.specs.CountSteps.{Counts, HasCounted, count_at, delay_at, place_count, place_of}
use Rattle.delay_counts.proofs.Numbers.{at_end, at_own, counted_as-le, find-first_0, left_of_zeros, left_out-is, number_within, place_before, place_count-is, place_of-eqb, place_of-lt, rises-lt}
use Rattle.delay_counts.proofs.Ranges.{found_at_places, found_before, same_found}

-- how many of some delays are counted before a place
abbrev pub number_before : List ℕ → ℕ → ℕ
number_before delays place = count_by (λ delay. nat_lt (place_of delay) place) delays

-- ---- counts by their tests
count-same : (f g : ℕ → Bool) (delays : List ℕ) → ((delay : ℕ) → f delay ≡ g delay) → count_by f delays ≡ count_by g delays
count-same f g delays same = sum_by-same _ _ delays (λ delay. ap (λ b. if b then 1 else 0) (same delay))

count-none : (f : ℕ → Bool) (delays : List ℕ) → ((delay : ℕ) → f delay ≡ false) → count_by f delays ≡ 0
count-none f delays none = sum_by-none _ delays (λ delay. cond-false (f delay) 1 0 (none delay))

count-all : (delays : List ℕ) → count_by (λ delay. true) delays ≡ length delays
count-all [] = refl
count-all (delay ∷ delays) = omega (arith, count-all delays, sum_by-cons (λ (x : ℕ). 1) delay delays)

-- of a test that fewer delays pass
one_le : (a b : Bool) → (a ≡ true → b ≡ true) → (if a then 1 else 0) ≤ (if b then 1 else 0)
one_le true b also = rw (also refl) (omega arith)
one_le false b also = omega arith

count-le : (f g : ℕ → Bool) (delays : List ℕ) (most : ℕ) → greatest delays ≤ most → ((delay : ℕ) → delay ≤ most → f delay ≡ true → g delay ≡ true)
    → count_by f delays ≤ count_by g delays
count-le f g [] most within also = omega arith
count-le f g (delay ∷ delays) most within also =
    let here = one_le (f delay) (g delay) (also delay (omega arith)) in
    let rest = count-le f g delays most (omega arith) also in
    omega (arith, here, rest, sum_by-cons (λ x. if f x then 1 else 0) delay delays, sum_by-cons (λ x. if g x then 1 else 0) delay delays)

-- ---- how many are counted before a place
pub before-none : (delays : List ℕ) → number_before delays 0 ≡ 0
before-none delays = count-none (λ delay. nat_lt (place_of delay) 0) delays (λ delay. le-ltb (place_of delay) 0 (omega arith))

one_more : (x place : ℕ) → (if nat_lt x (place + 1) then 1 else 0) ≡ (if nat_lt x place then 1 else 0) + (if x == place then 1 else 0)
one_more x place = elim (cases_lt x place) [
  | inl less ↦ rw (lt-ltb x (place + 1) (omega arith), lt-ltb x place less, ne_eqb x place (λ e. omega arith)) refl
  | inr from ↦ elim (cases_eq x place) [
    | inl same ↦ rw (lt-ltb x (place + 1) (omega arith), le-ltb x place from, eq-eqb x place same) refl
    | inr other ↦ rw (le-ltb x (place + 1) (omega arith), le-ltb x place from, ne_eqb x place other) refl
  ]
]

pub before-more : (delays : List ℕ) (place : ℕ)
    → number_before delays (place + 1) ≡ number_before delays place + count_by (λ delay. place_of delay == place) delays
before-more delays place =
    sum_by-same _ _ delays (λ delay. one_more (place_of delay) place)
    ∙ sum_by-plus (λ delay. if nat_lt (place_of delay) place then 1 else 0) (λ delay. if place_of delay == place then 1 else 0) delays

pub before-le : (delays : List ℕ) (place : ℕ) → number_before delays place ≤ length delays
before-le delays place =
    let part = sum_by-le (λ delay. if nat_lt (place_of delay) place then 1 else 0) 1 delays
    (λ k d _. one_if-le (nat_lt (place_of (slice_index_or delays k d)) place)) in
    omega arith

-- a delay of 32 bits has a place
pub place_of-short : (delay : ℕ) → delay < 2 ^ 32 → place_of delay < place_count
place_of-short delay short =
    let left = left_of_zeros 32 delay short (omega arith) in
    place_of-lt delay _ (omega arith) (left_out-is delay _ left)

greatest-lt : (delays : List ℕ) (most : ℕ) → All (λ delay. delay < suc most) delays → greatest delays ≤ most
greatest-lt [] most all = omega arith
greatest-lt (delay ∷ delays) most all =
    let here = all 0 0 (omega arith) in
    let rest = greatest-lt delays most (λ k d inside. all (suc k) d (omega arith)) in
    omega arith

pub before-all : (delays : List ℕ) → All (λ delay. delay < 2 ^ 32) delays → length delays ≤ number_before delays place_count
before-all delays all =
    let each = count-le (λ delay. true) (λ delay. nat_lt (place_of delay) place_count) delays (2 ^ 32 - 1) (greatest-lt delays (2 ^ 32 - 1) all)
    (λ delay within _. lt-ltb (place_of delay) place_count (place_of-short delay (omega arith))) in
    omega (arith, each, count-all delays)

-- the numbers of the first places are those before the next
pub sum-before : (counts : Counts) (delays : List ℕ) → HasCounted counts delays → (place : ℕ) → place ≤ place_count
    → sum (take place counts.numbers) ≡ number_before delays place
sum-before counts delays has zero within = sym (before-none delays)
sum-before counts delays has (suc place) within =
    let next : place + 1 ≡ suc place = omega arith in
    let below : place < length counts.numbers = omega (arith, has.places) in
    rw (← next) (omega (
      arith,
      sum_by_more (λ x. x) counts.numbers place 0 below,
      sum-before counts delays has place (omega arith),
      has.numbers place (omega arith),
      before-more delays place,
    ))

pub sum-within : (counts : Counts) (delays : List ℕ) → HasCounted counts delays → (place : ℕ) → place ≤ place_count → sum (take place counts.numbers) ≤ counts.total
sum-within counts delays has place within = omega (arith, sum-before counts delays has place within, before-le delays place, has.total)

pub sum-all : (counts : Counts) (delays : List ℕ) → HasCounted counts delays → counts.total ≤ sum (take place_count counts.numbers)
sum-all counts delays has = omega (arith, sum-before counts delays has place_count (omega arith), before-all delays has.short, has.total)

-- ---- a percentile
up_to-before : (delays : List ℕ) (place : ℕ) → number_up_to delays (delay_at place) ≡ number_before delays (place + 1)
up_to-before delays place =
    count-same (λ delay. nat_le (counted_as delay) (delay_at place)) (λ delay. nat_lt (place_of delay) (place + 1)) delays
    (λ delay. elim (cases_lt place (place_of delay)) [
      | inl past ↦
          let more : delay_at place < counted_as delay = omega (arith, rises-lt place (place_of delay) past, at_own delay) in
          lt-leb (counted_as delay) (delay_at place) more ∙ sym (le-ltb (place_of delay) (place + 1) (omega arith))
      | inr within ↦
          le-leb (counted_as delay) (delay_at place) (number_within delay place within) ∙ sym (lt-ltb (place_of delay) (place + 1) (omega arith))
    ])

module _ (delays : List ℕ) (share place : ℕ) (early : (place ≡ 0) ⊎ (10000 * number_before delays place < share * length delays))
    (enough : share * length delays ≤ 10000 * number_before delays (place + 1)) where
  -- the number of the place is no greater than the longest delay
  inside : delay_at place < greatest delays + 1
  inside = elim early [
    | inl first ↦ let none : delay_at place ≡ 0 = ap delay_at first in omega arith
    | inr less ↦ elim (cases_lt (delay_at place) (greatest delays + 1)) [
      | inl is ↦ is
      | inr past ↦
          let none = count-le (λ delay. nat_lt (place_of delay) (place + 1)) (λ delay. nat_lt (place_of delay) place) delays (greatest delays) (omega arith)
          (λ delay within _. lt-ltb (place_of delay) place (place_before delay place (omega (arith, counted_as-le delay)))) in
          absurd (omega arith)
    ]
  ]

  -- a lesser number is not enough
  lesser : (number : ℕ) → number < delay_at place → nat_le (share * length delays) (10000 * number_up_to delays number) ≡ false
  lesser number less = elim early [
    | inl first ↦ absurd (let none : delay_at place ≡ 0 = ap delay_at first in omega arith)
    | inr few ↦
        let part = count-le (λ delay. nat_le (counted_as delay) number) (λ delay. nat_lt (place_of delay) place) delays (greatest delays) (omega arith)
        (λ delay _ is. lt-ltb (place_of delay) place (place_before delay place (omega (arith, leb-true (counted_as delay) number is)))) in
        lt-leb (share * length delays) (10000 * number_up_to delays number) (omega arith)
  ]

  pub percentile-is : delay_at place ≡ percentile share delays
  unfolding percentile
  percentile-is =
      let here : nat_le (share * length delays) (10000 * number_up_to delays (delay_at place)) ≡ true =
      le-leb (share * length delays) (10000 * number_up_to delays (delay_at place)) (omega (arith, up_to-before delays place)) in
      sym (ap (λ o. unwrap_or o 0)
      (find-first_0 (λ number. nat_le (share * length delays) (10000 * number_up_to delays number)) (greatest delays + 1) (delay_at place) inside here lesser))

-- ---- as the places are gone over
pub sum-next : (numbers : List ℕ) (place number seen : ℕ) → place < length numbers → number ≡ slice_index_or numbers place number
    → seen ≡ sum (take place numbers) → seen + number ≡ sum (take (place + 1) numbers)
sum-next numbers place number seen inside is before =
    omega (arith, before, get_or_read numbers place number inside is 0, sum_by_more (λ x. x) numbers place 0 inside)

pub percentile-found : (counts : Counts) (delays : List ℕ) → HasCounted counts delays → (share place number seen wanted : ℕ) → place < place_count
    → number ≡ slice_index_or counts.numbers place number → seen ≡ sum (take place counts.numbers) → wanted ≡ share * counts.total
    → ((place ≡ 0) ⊎ (10000 * seen < wanted)) → wanted ≤ 10000 * (seen + number) → delay_at place ≡ percentile share delays
percentile-found counts delays has share place number seen wanted inside is counted wanted_is early enough =
    let all : wanted ≡ share * length delays = wanted_is ∙ ap (λ n. share * n) has.total in
    let before : seen ≡ number_before delays place = counted ∙ sum-before counts delays has place (omega arith) in
    let next : seen + number ≡ number_before delays (place + 1) =
    sum-next counts.numbers place number seen (omega (arith, has.places)) is counted ∙ sum-before counts delays has (place + 1) (omega arith) in
    percentile-is delays share place (elim early [ inl first ↦ inl first | inr less ↦ inr (omega arith) ]) (omega arith)

-- the share is reached at the last place at least
pub percentile-reached : (counts : Counts) (delays : List ℕ) → HasCounted counts delays → (share place seen wanted : ℕ) → share ≤ 10000 → place ≡ 45056
    → seen ≡ sum (take place counts.numbers) → wanted ≡ share * counts.total → ((place ≡ 0) ⊎ (10000 * seen < wanted)) → ⊥
percentile-reached counts delays has share place seen wanted whole last counted wanted_is early = elim early [
  | inl first ↦ omega arith
  | inr less ↦
      let end : place ≡ place_count = last ∙ sym place_count-is in
      let all : seen ≡ sum (take place_count counts.numbers) = counted ∙ ap (λ n. sum (take n counts.numbers)) end in
      let most = mul-le share counts.total 10000 counts.total whole (omega arith) in
      omega (arith, all, sum-all counts delays has, most, wanted_is, less)
]

-- ---- the numbers as which delays are counted
number_at-place : (delays : List ℕ) (place : ℕ) → count_by (λ delay. place_of delay == place) delays ≡ number_at delays (delay_at place)
number_at-place delays place =
    count-same (λ delay. place_of delay == place) (λ delay. counted_as delay == delay_at place) delays (λ delay. place_of-eqb delay place)

count_of-none : (delays : List ℕ) (number : ℕ) → number_at delays number ≡ 0 → count_of delays number ≡ None
count_of-none delays number none = cond-true (number_at delays number == 0) _ _ (eq-eqb (number_at delays number) 0 none)

count_of-other : (delays : List ℕ) (number : ℕ) → ((place : ℕ) → delay_at place ≢ number) → count_of delays number ≡ None
count_of-other delays number other =
    count_of-none delays number (count-none (λ delay. counted_as delay == number) delays
    (λ delay. ne_eqb (counted_as delay) number (λ e. other (place_of delay) (at_own delay ∙ e))))

count_of-past : (delays : List ℕ) (number : ℕ) → greatest delays < number → count_of delays number ≡ None
count_of-past delays number past =
    let none = count-le (λ delay. counted_as delay == number) (λ delay. false) delays (greatest delays) (omega arith)
    (λ delay within is. absurd (omega (arith, counted_as-le delay, eqb-true (counted_as delay) number is))) in
    count_of-none delays number (omega (arith, none, count-none (λ delay. false) delays (λ delay. refl)))

pub counts_of-places : (counts : Counts) (delays : List ℕ) → HasCounted counts delays
    → filter_map (count_at counts) (range_with_len 0 place_count) ≡ counts_of delays
unfolding counts_of
counts_of-places counts delays has =
    same_found (count_at counts) (λ place. count_of delays (delay_at place)) 0 place_count
    (λ place _ below.
    let number : slice_index counts.numbers place ≡ number_at delays (delay_at place) = has.numbers place (omega arith) ∙ number_at-place delays place in
    ap (λ (n : ℕ). let o : Option DelayCount = if n == 0 then None else Some (record { delay = delay_at place; number = n }) in o) number)
    ∙ found_at_places (count_of delays) delay_at rises-lt (count_of-other delays) 0 place_count (delay_at place_count)
    (ap (λ n. 0 + n) (sym (ap delay_at (let e : 0 + place_count ≡ place_count = omega arith in e))) ∙ omega arith)
    ∙ sym (found_before (count_of delays) 0 (greatest delays + 1) (delay_at place_count)
    (omega (arith, at_end, greatest-lt delays (2 ^ 32 - 1) has.short)) (λ number from _. count_of-past delays number (omega arith)))
