-- The number as which a delay is counted, its place, and that numbers rise with their places.
use Rattle.std.proofs.Common.{◌≡◌, ◌≢◌, ◌∙◌, ◌⊎◌, ℕ, zero, suc, ◌+◌, ◌-◌, ◌*◌, ◌/◌, ◌%◌, ◌^◌, ◌<◌, ◌≤◌, ◌==◌, Bool, true, false, nat_lt}
use Rattle.std.proofs.Common.{Some, refl, sym, ap, inl, inr, arith}
use Rattle.std.specs.Option.{unwrap_or}
use Rattle.std.specs.List.{find, range_with_len}
use Rattle.std.specs.Int.Count.{count_leading_zeros}
use Rattle.std.proofs.lemmas.Bool.{cases_lt, cases_order, cond-false, cond-true, eq-eqb, lt-ltb, le-ltb, ne_eqb}
use Rattle.std.proofs.lemmas.Nat.{div-add-mod', leading_length, le-div, mul-le, pow-add, pow_pos, shl_whole, shr-shr, shr_below}
use Rattle.std.proofs.Math.Nat.{pow-suc}
use Rattle.std.proofs.Math.Pow.{pow_mono}
use Rattle.delay_counts.specs.Delays.{bits_left_out, counted_as}
use Rattle.delay_counts.specs.CountSteps.{delay_at, place_count, place_of}

-- ---- the first of a range that passes
pub find-first : (test : ℕ → Bool) (a n k : ℕ) → k < n → test (a + k) ≡ true → ((j : ℕ) → j < k → test (a + j) ≡ false)
    → find test (range_with_len a n) ≡ Some (a + k)
find-first test a zero k inside here before = absurd (omega arith)
find-first test a (suc n) zero inside here before =
    let at : a + 0 ≡ a = omega arith in
    let yes : test a ≡ true = ap test (sym at) ∙ here in
    rw yes (ap Some (sym at))
find-first test a (suc n) (suc k) inside here before =
    let at : a + 0 ≡ a = omega arith in
    let no : test a ≡ false = ap test (sym at) ∙ before 0 (omega arith) in
    let step : (j : ℕ) → (a + 1) + j ≡ a + suc j = λ j. omega arith in
    rw no
    (find-first test (a + 1) n k (omega arith) (ap test (step k) ∙ here) (λ j below. ap test (step j) ∙ before (suc j) (omega arith)) ∙ ap Some (step k))

pub find-first_0 : (test : ℕ → Bool) (n k : ℕ) → k < n → test k ≡ true → ((j : ℕ) → j < k → test j ≡ false) → find test (range_with_len 0 n) ≡ Some k
find-first_0 test n k inside here before =
    let at : (j : ℕ) → 0 + j ≡ j = λ j. omega arith in
    find-first test 0 n k inside (ap test (at k) ∙ here) (λ j below. ap test (at j) ∙ before j below) ∙ ap Some (at k)

-- ---- how many bits are left out
under_power : (n : ℕ) → n < 2 ^ n
under_power zero = omega arith
under_power (suc n) = omega (arith, under_power n, pow-suc 2 n)

-- a number of 12 bits that begin with 1 is left, or the delay is below 4,096
pub record IsLeft (delay bits : ℕ) : Type 0 where
  pub short : delay / 2 ^ bits < 4096
  pub lead : (bits ≡ 0) ⊎ (2048 ≤ delay / 2 ^ bits)

-- with fewer bits left out, more is left
more_left : (delay bits fewer : ℕ) → fewer < bits → 2048 ≤ delay / 2 ^ bits → 4096 ≤ delay / 2 ^ fewer
more_left delay bits fewer less lead =
    let rest = bits - fewer - 1 in
    let sum : fewer + suc rest ≡ bits = omega arith in
    let down : delay / 2 ^ fewer / 2 ^ suc rest ≡ delay / 2 ^ bits = shr-shr delay fewer (suc rest) ∙ ap (λ n. delay / 2 ^ n) sum in
    let x = delay / 2 ^ fewer in
    let back = div-add-mod' x (2 ^ suc rest) in
    let big : 2 ≤ 2 ^ suc rest = omega (arith, pow-suc 2 rest, pow_pos rest) in
    let product = mul-le 2048 2 (x / 2 ^ suc rest) (2 ^ suc rest) (omega (arith, down)) big in
    omega (arith, back, product)

left_out_inside : (delay bits : ℕ) → IsLeft delay bits → 0 < delay → bits < delay
left_out_inside delay bits is some = elim is.lead [
  | inl none ↦ omega arith
  | inr lead ↦
      let back = div-add-mod' delay (2 ^ bits) in
      let product = mul-le 1 (2 ^ bits) (delay / 2 ^ bits) (2 ^ bits) (omega arith) (omega arith) in
      omega (arith, back, product, under_power bits)
]

pub left_out-is : (delay bits : ℕ) → IsLeft delay bits → bits_left_out delay ≡ bits
unfolding bits_left_out
left_out-is zero bits is = elim is.lead [
  | inl none ↦ sym none
  | inr lead ↦ absurd (let back = div-add-mod' 0 (2 ^ bits) in
      let product = mul-le 1 (2 ^ bits) (0 / 2 ^ bits) (2 ^ bits) (omega arith) (omega arith) in
      omega (arith, back, product, pow_pos bits))
]
left_out-is (suc delay) bits is =
    let test : ℕ → Bool = λ b. nat_lt (suc delay / 2 ^ b) 4096 in
    ap (λ o. unwrap_or o 0)
    (find-first_0 test (suc delay) bits (left_out_inside (suc delay) bits is (omega arith)) (lt-ltb (suc delay / 2 ^ bits) 4096 is.short)
    (λ fewer below. le-ltb (suc delay / 2 ^ fewer) 4096 (elim is.lead [
      | inl none ↦ absurd (omega arith)
      | inr lead ↦ more_left (suc delay) bits fewer below lead
    ])))

-- by the number of leading zeros among w bits
left_short : (delay : ℕ) → delay < 4096 → IsLeft delay 0
left_short delay short = record { short = omega arith; lead = inl refl }

left_long : (delay bits : ℕ) → 2 ^ (11 + bits) ≤ delay → delay < 2 ^ (12 + bits) → IsLeft delay bits
left_long delay bits from below =
    record { short = shr_below delay 12 bits below; lead = inr (le-div 2048 delay (2 ^ bits) (pow_pos bits) (omega (arith, pow-add 2 11 bits, from))) }

pub left_of_zeros : (w delay : ℕ) → delay < 2 ^ w → 12 ≤ w → IsLeft delay ((w - 12) - count_leading_zeros w delay)
left_of_zeros w delay fits wide =
    let top = leading_length w delay fits in
    let m = top.0 in
    elim (cases_lt 12 m) [
      | inl long ↦
          let bits = (w - 12) - count_leading_zeros w delay in
          let is : 12 + bits ≡ m = omega (arith, top.1) in
          let next : 12 + bits ≡ suc (11 + bits) = omega arith in
          let double : 2 ^ (12 + bits) ≡ 2 * 2 ^ (11 + bits) = omega (arith, ap (λ n. 2 ^ n) next, pow-suc 2 (11 + bits)) in
          let below : delay < 2 ^ (12 + bits) = rw is top.2 in
          let from : 2 ^ (12 + bits) ≤ 2 * delay + 1 = rw is top.3 in
          left_long delay bits (omega (arith, double, from)) below
      | inr short ↦
          let none : (w - 12) - count_leading_zeros w delay ≡ 0 = omega (arith, top.1) in
          let few : 2 ^ m ≤ 2 ^ 12 = pow_mono short in
          rw none (left_short delay (omega (arith, top.2, few)))
    ]

pub IsLeft-own : (delay : ℕ) → IsLeft delay (bits_left_out delay)
IsLeft-own delay =
    let w = delay + 12 in
    let fits : delay < 2 ^ w = omega (arith, under_power delay, pow_mono {i = delay} {j = w} (omega arith)) in
    let left = left_of_zeros w delay fits (omega arith) in
    rw (left_out-is delay _ left) left

-- ---- the number of a place
-- places from 2,048 on, in rows of 2,048
at_row : (row column : ℕ) → column < 2048 → delay_at (2048 * (row + 1) + column) ≡ (column + 2048) * 2 ^ row
at_row row column inside =
    let place = 2048 * (row + 1) + column in
    let over : place / 2048 ≡ row + 1 = omega arith in
    let rest : place % 2048 ≡ column = omega arith in
    elim (cases_lt place 4096) [
      | inl exact ↦
          let first : row ≡ 0 = omega arith in
          cond-true (nat_lt place 4096) place _ (lt-ltb place 4096 exact) ∙ rw first (omega arith)
      | inr beyond ↦
          let row_is : place / 2048 - 1 ≡ row = omega arith in
          cond-false (nat_lt place 4096) place _ (le-ltb place 4096 beyond) ∙ rw (rest, row_is) refl
    ]

-- the row after the last column begins where the next row does
at_row_end : (row : ℕ) → delay_at (2048 * (row + 2)) ≡ 4096 * 2 ^ row
at_row_end row =
    let same : 2048 * (row + 1 + 1) + 0 ≡ 2048 * (row + 2) = omega arith in
    let next : row + 1 ≡ suc row = omega arith in
    ap delay_at (sym same) ∙ at_row (row + 1) 0 (omega arith) ∙ ap (λ n. (0 + 2048) * 2 ^ n) next ∙ omega (arith, pow-suc 2 row)

at_exact : (place : ℕ) → place < 4096 → delay_at place ≡ place
at_exact place exact = cond-true (nat_lt place 4096) place _ (lt-ltb place 4096 exact)

-- numbers rise with their places
rises_once : (place : ℕ) → delay_at place < delay_at (place + 1)
rises_once place = elim (cases_lt place 2048) [
  | inl exact ↦ omega (arith, at_exact place (omega arith), at_exact (place + 1) (omega arith))
  | inr beyond ↦
      let row = place / 2048 - 1 in
      let column = place % 2048 in
      let is : 2048 * (row + 1) + column ≡ place = omega arith in
      let here : delay_at place ≡ (column + 2048) * 2 ^ row = ap delay_at (sym is) ∙ at_row row column (omega arith) in
      let some = pow_pos row in
      elim (cases_lt (column + 1) 2048) [
        | inl inside ↦
            let next_is : 2048 * (row + 1) + (column + 1) ≡ place + 1 = omega arith in
            let next : delay_at (place + 1) ≡ (column + 1 + 2048) * 2 ^ row = ap delay_at (sym next_is) ∙ at_row row (column + 1) inside in
            omega (arith, here, next, some)
        | inr last ↦
            let next_is : 2048 * (row + 2) ≡ place + 1 = omega arith in
            let next : delay_at (place + 1) ≡ 4096 * 2 ^ row = ap delay_at (sym next_is) ∙ at_row_end row in
            let column_is : column ≡ 2047 = omega arith in
            let here_is : delay_at place ≡ 4095 * 2 ^ row = here ∙ ap (λ n. (n + 2048) * 2 ^ row) column_is in
            omega (arith, here_is, next, some)
      ]
]

pub rises : (place n : ℕ) → delay_at place + n ≤ delay_at (place + n)
rises place zero = let e : place + 0 ≡ place = omega arith in rw e (omega arith)
rises place (suc n) =
    let e : place + n + 1 ≡ place + suc n = omega arith in
    let step : delay_at (place + n) < delay_at (place + suc n) = rw (← e) (rises_once (place + n)) in
    omega (arith, rises place n, step)

pub rises-lt : (p q : ℕ) → p < q → delay_at p < delay_at q
rises-lt p q less =
    let e : p + (q - p) ≡ q = omega arith in
    let step : delay_at p + (q - p) ≤ delay_at q = rw e at (rises p (q - p)) in
    omega arith

pub at_none : delay_at 0 ≡ 0
at_none = at_exact 0 (omega arith)

-- ---- the place of a delay
pub at_own : (delay : ℕ) → delay_at (place_of delay) ≡ counted_as delay
at_own delay =
    let is = IsLeft-own delay in
    let bits = bits_left_out delay in
    let rest = delay / 2 ^ bits in
    elim is.lead [
      | inl none ↦
          let place : place_of delay ≡ rest = omega (arith, none) in
          let one : 2 ^ bits ≡ 1 = ap (λ n. 2 ^ n) none in
          ap delay_at place ∙ at_exact rest is.short ∙ omega (arith, ap (λ n. rest * n) one)
      | inr lead ↦
          let same : 2048 * (bits + 1) + (rest - 2048) ≡ place_of delay = omega arith in
          let back : rest - 2048 + 2048 ≡ rest = omega arith in
          ap delay_at (sym same) ∙ at_row bits (rest - 2048) (omega (arith, is.short)) ∙ ap (λ n. n * 2 ^ bits) back
    ]

pub counted_as-le : (delay : ℕ) → counted_as delay ≤ delay
counted_as-le delay = omega (arith, div-add-mod' delay (2 ^ bits_left_out delay))

-- a delay is counted at this place, or before it, exactly where it is counted as this number, or a lesser one
pub place_of-eqb : (delay place : ℕ) → (place_of delay == place) ≡ (counted_as delay == delay_at place)
place_of-eqb delay place = elim (cases_order (place_of delay) place) [
  | inl same ↦
      eq-eqb (place_of delay) place same
      ∙ sym (eq-eqb (counted_as delay) (delay_at place) (sym (at_own delay) ∙ ap delay_at same))
  | inr differ ↦
      let apart : counted_as delay ≢ delay_at place = λ e. elim differ [
        | inl less ↦ omega (arith, rises-lt (place_of delay) place less, at_own delay, e)
        | inr more ↦ omega (arith, rises-lt place (place_of delay) more, at_own delay, e)
      ] in
      ne_eqb (place_of delay) place (λ e. elim differ [ inl less ↦ omega arith | inr more ↦ omega arith ])
      ∙ sym (ne_eqb (counted_as delay) (delay_at place) apart)
]

pub place_before : (delay place : ℕ) → counted_as delay < delay_at place → place_of delay < place
place_before delay place less = elim (cases_lt (place_of delay) place) [
  | inl below ↦ below
  | inr from ↦ elim (cases_lt place (place_of delay)) [
    | inl more ↦ absurd (omega (arith, rises-lt place (place_of delay) more, at_own delay))
    | inr same ↦
        let e : place_of delay ≡ place = omega arith in
        absurd (omega (arith, ap delay_at e, at_own delay))
  ]
]

pub number_within : (delay place : ℕ) → place_of delay ≤ place → counted_as delay ≤ delay_at place
number_within delay place within = elim (cases_lt (place_of delay) place) [
  | inl less ↦ omega (arith, rises-lt (place_of delay) place less, at_own delay)
  | inr from ↦
      let e : place_of delay ≡ place = omega arith in
      omega (arith, ap delay_at e, at_own delay)
]

-- ---- all places
pub place_count-is : place_count ≡ 45056
unfolding place_count
place_count-is = refl

pub at_end : delay_at place_count ≡ 2 ^ 32
at_end = ap delay_at place_count-is ∙ at_row 21 0 (omega arith)

pub place_of-lt : (delay bits : ℕ) → bits ≤ 20 → bits_left_out delay ≡ bits → place_of delay < place_count
place_of-lt delay bits few is =
    let short = (IsLeft-own delay).short in
    omega (arith, place_count-is, short, few, is)

-- the number of a place from 4,096 on, as a shift computes it
pub at_shifted : (place : ℕ) → 4096 ≤ place → place < place_count
    → (place % 2048 + 2048) * 2 ^ (place / 2048 - 1) % 2 ^ 32 ≡ delay_at place
at_shifted place beyond inside =
    shl_whole (place % 2048 + 2048) 12 (place / 2048 - 1) 32 (omega arith) (omega (arith, place_count-is))
    ∙ sym (cond-false (nat_lt place 4096) place _ (le-ltb place 4096 beyond))
