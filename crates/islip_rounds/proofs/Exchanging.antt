-- A pair of rows more is exchanged.
use Rattle.std.proofs.Common.{◌≡◌, ℕ, ◌+◌, ◌-◌, ◌*◌, ◌/◌, ◌%◌, ◌^◌, ◌<◌, ◌≤◌, ◌≢◌, ◌∙◌, List, length, slice_index, slice_set, bit_and, bit_xor, arith}
use Rattle.std.proofs.Common.{sym, inl, inr, get_or-set_same, get_or-set_other, length-set}
use Rattle.std.specs.Int.{bit_at}
use Rattle.std.proofs.lemmas.Bool.{cases_eq}
use Rattle.std.proofs.lemmas.Nat.{one_shl, pow_pos, pow_below}
use Rattle.std.proofs.lemmas.Nat.Bits.{bit_at-lt, and_pow}
use Rattle.islip_rounds.specs.ExchangeSteps.{bit_of, take_bit}
use Rattle.islip_rounds.proofs.Turning.{without, take_bit_same, take_bit_up, take_bit_down, up_bit, up-lt, without_bit, without_clear, without_set}
use Rattle.islip_rounds.proofs.Words.{high_clear, high_set, low_clear, low_set}

pub width-is : (k : ℕ) → k < 6 → 1 * 2 ^ k % 2 ^ 64 ≡ 2 ^ k
width-is k h = one_shl k 64 (omega arith)

pub width-lt : (k : ℕ) → k < 6 → 2 ^ k < 64
width-lt k h = pow_below k 6 h

pub clear_from_ne : (x k : ℕ) → (bit_at x k ≡ 1 → ⊥) → bit_at x k ≡ 0
clear_from_ne x k h = let lt = bit_at-lt x k in omega arith

pub clear_from_test : (r k : ℕ) → bit_and r (2 ^ k) ≡ 0 → bit_at r k ≡ 0
clear_from_test r k e = clear_from_ne r k (λ set. absurd (omega (arith, pow_pos k, rw set at (and_pow r k), e)))

pub set_from_test : (r k : ℕ) → (bit_and r (2 ^ k) ≡ 0 → ⊥) → bit_at r k ≡ 1
set_from_test r k h =
    elim (cases_eq (bit_at r k) 1) [
      | inl set ↦ set
      | inr other ↦ absurd (h (omega (arith, rw (clear_from_ne r k other) at (and_pow r k))))
    ]

-- the pairs whose lower row comes before r are exchanged, and the others not
pub record Exchanging (k r : ℕ) (old rows : List ℕ) : Type 0 where
  pub exchanged : (x c : ℕ) → x < 64 → c < 64 → without k x < r → bit_of rows x c ≡ bit_of old (take_bit k x c) (take_bit k c x)
  pub left : (x : ℕ) → r ≤ without k x → slice_index rows x ≡ slice_index old x

module _ (k r mask : ℕ) (old : List ℕ) (clear : bit_at r k ≡ 0) (masks : (c : ℕ) → c < 64 → bit_at mask c ≡ 1 - bit_at c k) where
  abbrev pub high : ℕ
  high = slice_index old r

  abbrev pub low : ℕ
  low = slice_index old (r + 2 ^ k)

  abbrev pub new_high : ℕ
  new_high = bit_xor high (bit_and (bit_xor (high / 2 ^ (2 ^ k)) low) mask * 2 ^ (2 ^ k) % 2 ^ 64)

  abbrev pub new_low : ℕ
  new_low = bit_xor low (bit_and (bit_xor (high / 2 ^ (2 ^ k)) low) mask)

  pub high_row : (c : ℕ) → c < 64 → bit_at new_high c ≡ bit_of old (take_bit k r c) (take_bit k c r)
  high_row c within =
      elim (cases_eq (bit_at c k) 1) [
        | inl set ↦
            let down : take_bit k c r ≡ c - 2 ^ k = omega (arith, take_bit_down k c r set clear) in
            rw (take_bit_up k r c clear set, down) (high_set high low mask k masks c within set)
        | inr other ↦
            let c_clear = clear_from_ne c k other in
            rw (take_bit_same k r c (c_clear ∙ sym clear), take_bit_same k c r (clear ∙ sym c_clear)) (high_clear high low mask k masks c within c_clear)
      ]

  pub low_row : (c : ℕ) → c < 64 → bit_at new_low c ≡ bit_of old (take_bit k (r + 2 ^ k) c) (take_bit k c (r + 2 ^ k))
  low_row c within =
      let up = up_bit k r clear in
      elim (cases_eq (bit_at c k) 1) [
        | inl set ↦ rw (take_bit_same k (r + 2 ^ k) c (set ∙ sym up), take_bit_same k c (r + 2 ^ k) (up ∙ sym set)) (low_set high low mask k masks c within set)
        | inr other ↦
            let c_clear = clear_from_ne c k other in
            let down : take_bit k (r + 2 ^ k) c ≡ r = omega (arith, take_bit_down k (r + 2 ^ k) c up c_clear) in
            rw (down, take_bit_up k c (r + 2 ^ k) c_clear up) (low_clear high low mask k masks c within c_clear)
      ]

  -- a row whose lower row is r is one of the two
  others_lt : (x : ℕ) → x ≢ r → x ≢ r + 2 ^ k → without k x ≢ r
  others_lt x not_high not_low =
      elim (cases_eq (bit_at x k) 1) [
        | inl set ↦ omega (arith, without_set k x set)
        | inr other ↦ omega (arith, without_clear k x (clear_from_ne x k other))
      ]

  pub Exchanging-put : (rows : List ℕ) → k < 6 → r < 64 → length rows ≡ 64 → Exchanging k r old rows
      → Exchanging k (r + 1) old (slice_set (slice_set rows r new_high) (r + 2 ^ k) new_low)
  Exchanging-put rows k_in r_in long s =
      let low_in : r + 2 ^ k < 64 = up-lt k r k_in r_in clear in
      let width = pow_pos k in
      let apart : r ≢ r + 2 ^ k = omega arith in
      let low_inside : r + 2 ^ k < length (slice_set rows r new_high) = omega (arith, length-set {A = ℕ}) in
      let high_inside : r < length rows = omega arith in
      record {
        exchanged = λ x c x_in c_in before. elim (cases_eq x (r + 2 ^ k)) [
          | inl is_low ↦ rw (is_low, get_or-set_same) (low_row c c_in)
          | inr not_low ↦ elim (cases_eq x r) [
            | inl is_high ↦ rw is_high (rw get_or-set_other (rw get_or-set_same (high_row c c_in)))
            | inr not_high ↦ rw get_or-set_other (rw get_or-set_other (s.exchanged x c x_in c_in (omega (arith, others_lt x not_high not_low))))
          ]
        ];
        left = λ x after.
            let not_high : x ≢ r = λ e. absurd (omega (arith, rw e at after, without_clear k r clear)) in
            let not_low : x ≢ r + 2 ^ k = λ e. absurd (omega (arith, rw e at after, without_set k (r + 2 ^ k) (up_bit k r clear))) in
            rw get_or-set_other (rw get_or-set_other (s.left x (omega arith)));
      }

pub Exchanging-skip : (k r : ℕ) (old rows : List ℕ) → bit_at r k ≡ 1 → Exchanging k r old rows → Exchanging k (r + 1) old rows
Exchanging-skip k r old rows set s =
    record {
      exchanged = λ x c x_in c_in before.
          let apart : without k x ≢ r = λ e. absurd (omega (arith, rw e at (without_bit k x), set)) in
          s.exchanged x c x_in c_in (omega arith);
      left = λ x after. s.left x (omega arith);
    }

pub up_in : (k r : ℕ) → k < 6 → r < 64 → bit_and r (1 * 2 ^ k % 2 ^ 64) ≡ 0 → r + 1 * 2 ^ k % 2 ^ 64 < 64
up_in k r k_in r_in e = rw (width-is k k_in) (up-lt k r k_in r_in (clear_from_test r k (rw (width-is k k_in) at e)))
