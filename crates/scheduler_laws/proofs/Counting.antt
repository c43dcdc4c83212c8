-- Slots that come again: how often a place of a cycle comes in some slots.
use Rattle.std.proofs.Common.{◌≡◌, ◌≢◌, ℕ, zero, suc, ◌+◌, ◌*◌, ◌/◌, ◌%◌, ◌<◌, ◌≤◌, ◌⊎◌, ◌∙◌, [], ◌∷◌, refl, sym, ap, inl, inr, arith}
use Rattle.std.specs.List.{range_with_len, sum_by}
use Rattle.std.proofs.Math.Nat.{mod-eq_of_lt, mod-add-mod, add-mod_right}
use Rattle.std.proofs.lemmas.Bool.{cases_eq, cases_lt, eq-eqb, ne_eqb}
use Rattle.std.proofs.lemmas.List.Sums.{sum_by-cons, sum_by-append}
use Rattle.std.proofs.lemmas.Nat.{mod_below, div-mul-add, div-add-mod'}
use Rattle.std_lemmas.proofs.Numbers.{mod_once}
use Rattle.std_lemmas.proofs.Ranges.{range_next}
use Rattle.std_lemmas.proofs.RangeSums.{sum_by-range_same}
use Rattle.std_lemmas.proofs.Sums.{sum_by-same, range_sum-at, range_sum-shift}
use Rattle.scheduler_laws.specs.Growth.{one_in}

-- the place is there
pub one_in-there : (place slot : ℕ) → slot ≡ place → one_in place slot ≡ 1
one_in-there place slot same = rw (eq-eqb slot place same) refl

-- and it is not
pub one_in-not : (place slot : ℕ) → slot ≢ place → one_in place slot ≡ 0
one_in-not place slot other = rw (ne_eqb slot place other) refl

-- so one or none
pub one_in-or : (place slot : ℕ) → ((slot ≡ place) × (one_in place slot ≡ 1)) ⊎ ((slot ≢ place) × (one_in place slot ≡ 0))
one_in-or place slot = elim (cases_eq slot place) [
  | inl same ↦ inl (same, one_in-there place slot same)
  | inr other ↦ inr (other, one_in-not place slot other)
]

pub one_in-most : (place slot : ℕ) → one_in place slot ≤ 1
one_in-most place slot = elim (one_in-or place slot) [ inl at ↦ let e = at.1 in omega arith | inr off ↦ let e = off.1 in omega arith ]

-- the next slot: one place on, or at the first again
pub next_place : (k t : ℕ) → 0 < k → ((t % k + 1 < k) × ((t + 1) % k ≡ t % k + 1)) ⊎ ((t % k + 1 ≡ k) × ((t + 1) % k ≡ 0))
next_place k t some =
    let along : (t % k + 1) % k ≡ (t + 1) % k = mod-add-mod t k 1 in
    let below = mod_below t k some in
    elim (cases_lt (t % k + 1) k) [
      | inl short ↦ inl (short, sym along ∙ mod-eq_of_lt short)
      | inr long ↦ inr (omega arith, sym along ∙ mod_once k (t % k + 1) (omega arith) (omega arith) ∙ omega arith)
    ]

-- a sum over a range, and one more
pub range_sum-more : (f : ℕ → ℕ) (a n : ℕ) → sum_by f (range_with_len a (n + 1)) ≡ sum_by f (range_with_len a n) + f (a + n)
range_sum-more f a n = ap (sum_by f) (range_next a n) ∙ (sum_by-append f (range_with_len a n) ((a + n) ∷ [])
    ∙ ap (λ x. sum_by f (range_with_len a n) + x) (let e = sum_by-cons f (a + n) [] in omega arith))

-- a range in two
range_sum-split : (f : ℕ → ℕ) (b a n : ℕ) → sum_by f (range_with_len a (n + b)) ≡ sum_by f (range_with_len a n) + sum_by f (range_with_len (a + n) b)
range_sum-split f zero a n = let e = ap (λ m. sum_by f (range_with_len a m)) (let z : n + 0 ≡ n = omega arith in z) in omega arith
range_sum-split f (suc b) a n =
    let same : n + suc b ≡ (n + b) + 1 = omega arith in
    let last : a + (n + b) ≡ (a + n) + b = omega arith in
    let there = ap (λ m. sum_by f (range_with_len a m)) same in
    let whole = range_sum-more f a (n + b) in
    let rest = range_sum-split f b a n in
    let more = range_sum-more f (a + n) b in
    let next : suc b ≡ b + 1 = omega arith in
    let more_too = ap (λ m. sum_by f (range_with_len (a + n) m)) next in
    let at = ap f last in
    omega arith

-- terms that come again after k slots have one sum in any k slots in a row
module _ (f : ℕ → ℕ) (k : ℕ) (again : (u : ℕ) → f (u + k) ≡ f u) where
  window_sum : (t : ℕ) → sum_by f (range_with_len t k) ≡ sum_by f (range_with_len 0 k)
  window_sum zero = refl
  window_sum (suc t) =
      let rest = window_sum t in
      let next : suc t ≡ t + 1 = omega arith in
      let moved = ap (λ a. sum_by f (range_with_len a k)) next in
      let front = sum_by-cons f t (range_with_len (t + 1) k) in
      let back = range_sum-more f t k in
      let one_more : k + 1 ≡ suc k = omega arith in
      let whole = ap (λ m. sum_by f (range_with_len t m)) one_more in
      let same = again t in
      omega arith

  -- and m times as much in m times as many
  pub windows_sum : (m t : ℕ) → sum_by f (range_with_len t (m * k)) ≡ m * sum_by f (range_with_len 0 k)
  windows_sum zero t = ap (λ n. sum_by f (range_with_len t n)) (let z : 0 * k ≡ 0 = omega arith in z) ∙ omega arith
  windows_sum (suc m) t =
      let long : suc m * k ≡ k + m * k = omega arith in
      let there = ap (λ n. sum_by f (range_with_len t n)) long in
      let whole = range_sum-split f (m * k) t k in
      let first = window_sum t in
      let rest = windows_sum m (t + k) in
      there ∙ whole ∙ ap (λ x. x + sum_by f (range_with_len (t + k) (m * k))) first ∙ ap (λ x. sum_by f (range_with_len 0 k) + x) rest
      ∙ omega arith

-- a place of a cycle comes once in each
pub place_comes : (k place m t : ℕ) → place < k → sum_by (λ u. one_in place (u % k)) (range_with_len t (m * k)) ≡ m
place_comes k place m t below =
    let f : ℕ → ℕ = λ u. one_in place (u % k) in
    let again : (u : ℕ) → f (u + k) ≡ f u = λ u. ap (one_in place) (add-mod_right u k) in
    let plain : sum_by f (range_with_len 0 k) ≡ sum_by (λ u. one_in place u) (range_with_len 0 k) =
    sum_by-range_same 0 k (λ u. one_in place u) f (λ u from inside. ap (one_in place) (mod-eq_of_lt (omega arith))) in
    let once : sum_by (λ u. one_in place u) (range_with_len 0 k) ≡ one_in place place =
    range_sum-at (λ u. one_in place u) place (λ u other. one_in-not place u other) 0 k (omega arith) (omega arith) in
    let one : sum_by f (range_with_len 0 k) ≡ 1 = plain ∙ once ∙ one_in-there place place refl in
    windows_sum f k again m t ∙ ap (λ x. m * x) one ∙ omega arith

-- the second place has come up to a slot as often as the first place before it
pub second_comes : (k t : ℕ) → 1 < k
    → sum_by (λ u. one_in 1 (u % k)) (range_with_len 0 (t + 1)) ≡ sum_by (λ u. one_in 0 (u % k)) (range_with_len 0 t)
second_comes k t some =
    let f : ℕ → ℕ = λ u. one_in 1 (u % k) in
    let next : suc t ≡ t + 1 = omega arith in
    let whole = ap (λ n. sum_by f (range_with_len 0 n)) next in
    let front = sum_by-cons f 0 (range_with_len 1 t) in
    let none : f 0 ≡ 0 = ap (one_in 1) (mod-eq_of_lt (omega arith)) in
    let moved = range_sum-shift 0 t f in
    let each : (u : ℕ) → f (u + 1) ≡ one_in 0 (u % k) = λ u. elim (next_place k u (omega arith)) [
      | inl short ↦ elim (one_in-or 0 (u % k)) [
        | inl at ↦ one_in-there 1 ((u + 1) % k) (let e = short.1 in let z = at.0 in omega arith) ∙ sym at.1
        | inr off ↦ one_in-not 1 ((u + 1) % k) (λ s. let e = short.1 in absurd (off.0 (omega arith))) ∙ sym off.1
      ]
      | inr long ↦
          one_in-not 1 ((u + 1) % k) (λ s. let e = long.1 in omega arith)
          ∙ sym (one_in-not 0 (u % k) (λ z. let e = long.0 in omega arith))
    ] in
    let same = sum_by-same (λ u. f (u + 1)) (λ u. one_in 0 (u % k)) (range_with_len 0 t) each in
    omega arith

-- the quotient stays, or grows by one where the remainder is 0 again
next_quotient : (k t : ℕ) → 0 < k → (t + 1) / k ≡ t / k + one_in 0 ((t + 1) % k)
next_quotient k t some =
    let whole : t / k * k + t % k ≡ t = div-add-mod' t k in
    elim (next_place k t some) [
      | inl short ↦
          let there : t + 1 ≡ t / k * k + (t % k + 1) = omega arith in
          let none = one_in-not 0 ((t + 1) % k) (λ z. let e = short.1 in omega arith) in
          ap (λ x. x / k) there ∙ div-mul-add (t / k) k (t % k + 1) short.0 ∙ omega arith
      | inr long ↦
          let e = long.0 in
          let there : t + 1 ≡ (t / k + 1) * k + 0 = omega arith in
          let one = one_in-there 0 ((t + 1) % k) long.1 in
          ap (λ x. x / k) there ∙ div-mul-add (t / k + 1) k 0 some ∙ omega arith
    ]

-- the first place has come up to a slot once more than the cycles that have passed
pub first_comes : (k t : ℕ) → 0 < k → sum_by (λ u. one_in 0 (u % k)) (range_with_len 0 (t + 1)) ≡ t / k + 1
first_comes k zero some =
    let here = sum_by-cons (λ u. one_in 0 (u % k)) 0 [] in
    let none : 0 % k ≡ 0 = mod-eq_of_lt some in
    let one = one_in-there 0 (0 % k) none in
    let there : 0 ≡ 0 * k + 0 = omega arith in
    let quotient : 0 / k ≡ 0 = ap (λ x. x / k) there ∙ div-mul-add 0 k 0 some in
    omega arith
first_comes k (suc t) some =
    let next : suc t ≡ t + 1 = omega arith in
    let whole = range_sum-more (λ u. one_in 0 (u % k)) 0 (t + 1) in
    let at = ap (λ u. one_in 0 (u % k)) (let e : 0 + (t + 1) ≡ t + 1 = omega arith in e) in
    let rest = first_comes k t some in
    let quotient = next_quotient k t some in
    ap (λ n. sum_by (λ u. one_in 0 (u % k)) (range_with_len 0 (n + 1))) next ∙ whole ∙ omega (arith, at, rest, quotient)
    ∙ ap (λ n. n / k + 1) (sym next)
