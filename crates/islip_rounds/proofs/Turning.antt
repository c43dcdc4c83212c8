-- Numbers with a bit exchanged.
use Rattle.std.proofs.Common.{◌≡◌, ℕ, ◌+◌, ◌-◌, ◌*◌, ◌/◌, ◌%◌, ◌^◌, ◌<◌, ◌≤◌, ◌∙◌, arith, ap, sym, inl, inr}
use Rattle.std.specs.Int.{bit_at}
use Rattle.std.proofs.Math.Nat.{mod-eq_of_lt}
use Rattle.std.proofs.lemmas.Bool.{cases_eq}
use Rattle.std.proofs.lemmas.Nat.{shr_split, pow-add, pow_pos, mod_below, div-mul-add, mod-mul-add, mul-add-lt, shr_below, mod-pow-add}
use Rattle.std.proofs.lemmas.Nat.Bits.{bit_at-lt, bit_at_cat_low, bit_at_cat_high, bit_at_lowest}
use Rattle.islip_rounds.specs.ExchangeSteps.{take_bit, take_above}

-- x with no bit k
abbrev pub without : ℕ → ℕ → ℕ
without k x = x / 2 ^ (k + 1) * 2 ^ (k + 1) + (0 * 2 ^ k + x % 2 ^ k)

-- the bits below k + 1 are bit k and those below it
pub low_split : (k x : ℕ) → x % 2 ^ (k + 1) ≡ bit_at x k * 2 ^ k + x % 2 ^ k
low_split k x =
    let turn : 1 + k ≡ k + 1 = omega arith in
    rw turn at (mod-pow-add x 1 k)

pub split : (k x : ℕ) → x ≡ x / 2 ^ (k + 1) * 2 ^ (k + 1) + (bit_at x k * 2 ^ k + x % 2 ^ k)
split k x = sym (shr_split x (k + 1)) ∙ ap (λ v. x / 2 ^ (k + 1) * 2 ^ (k + 1) + v) (low_split k x)

-- a bit and what is below it
pub low_lt : (k b s : ℕ) → b < 2 → s < 2 ^ k → b * 2 ^ k + s < 2 ^ (k + 1)
low_lt k b s bit below = rw pow-add (mul-add-lt b (2 ^ k) s 2 bit below)

-- the parts of a number that is made of a high part, a bit and a low part
module _ (k q b s : ℕ) (bit : b < 2) (below : s < 2 ^ k) where
  pub made_high : (q * 2 ^ (k + 1) + (b * 2 ^ k + s)) / 2 ^ (k + 1) ≡ q
  made_high = div-mul-add q (2 ^ (k + 1)) (b * 2 ^ k + s) (low_lt k b s bit below)

  pub made_rest : (q * 2 ^ (k + 1) + (b * 2 ^ k + s)) % 2 ^ (k + 1) ≡ b * 2 ^ k + s
  made_rest = mod-mul-add q (2 ^ (k + 1)) (b * 2 ^ k + s) (low_lt k b s bit below)

  pub made_bit : bit_at (q * 2 ^ (k + 1) + (b * 2 ^ k + s)) k ≡ b
  made_bit =
      let none : k - k ≡ 0 = omega arith in
      bit_at_cat_low q (k + 1) (b * 2 ^ k + s) k (omega arith) ∙ (bit_at_cat_high b k s k below (omega arith) ∙ (rw (none, bit_at_lowest b) (mod-eq_of_lt bit)))

pub take_bit_same : (k r c : ℕ) → bit_at c k ≡ bit_at r k → take_bit k r c ≡ r
take_bit_same k r c e = rw e (sym (split k r))

pub made-lt : (k r b : ℕ) → k < 6 → r < 64 → b < 2 → r / 2 ^ (k + 1) * 2 ^ (k + 1) + (b * 2 ^ k + r % 2 ^ k) < 64
made-lt k r b k_in r_in bit =
    let six : 5 - k + (k + 1) ≡ 6 = omega arith in
    let turned : k + 1 + (5 - k) ≡ 6 = omega arith in
    let high : r / 2 ^ (k + 1) < 2 ^ (5 - k) = shr_below r (5 - k) (k + 1) (rw six r_in) in
    let fits = mul-add-lt (r / 2 ^ (k + 1)) (2 ^ (k + 1)) (b * 2 ^ k + r % 2 ^ k) (2 ^ (5 - k)) high
    (low_lt k b (r % 2 ^ k) bit (mod_below r (2 ^ k) (pow_pos k))) in
    let whole : 2 ^ (k + 1) * 2 ^ (5 - k) ≡ 64 = rw turned at (sym (pow-add 2 (k + 1) (5 - k))) in
    omega (arith, fits, whole)

pub take_bit-lt : (k r c : ℕ) → k < 6 → r < 64 → take_bit k r c < 64
take_bit-lt k r c k_in r_in = made-lt k r (bit_at c k) k_in r_in (bit_at-lt c k)

-- to set a bit that is clear, and to clear one that is set
pub take_bit_up : (k r c : ℕ) → bit_at r k ≡ 0 → bit_at c k ≡ 1 → take_bit k r c ≡ r + 2 ^ k
take_bit_up k r c clear set = rw set (omega (arith, rw clear at (split k r)))

pub take_bit_down : (k r c : ℕ) → bit_at r k ≡ 1 → bit_at c k ≡ 0 → take_bit k r c + 2 ^ k ≡ r
take_bit_down k r c set clear = rw clear (omega (arith, rw set at (split k r)))

pub up_bit : (k r : ℕ) → bit_at r k ≡ 0 → bit_at (r + 2 ^ k) k ≡ 1
up_bit k r clear =
    let e : r / 2 ^ (k + 1) * 2 ^ (k + 1) + (1 * 2 ^ k + r % 2 ^ k) ≡ r + 2 ^ k = omega (arith, rw clear at (split k r)) in
    rw e at (made_bit k (r / 2 ^ (k + 1)) 1 (r % 2 ^ k) (omega arith) (mod_below r (2 ^ k) (pow_pos k)))

pub up-lt : (k r : ℕ) → k < 6 → r < 64 → bit_at r k ≡ 0 → r + 2 ^ k < 64
up-lt k r k_in r_in clear =
    let e : r / 2 ^ (k + 1) * 2 ^ (k + 1) + (1 * 2 ^ k + r % 2 ^ k) ≡ r + 2 ^ k = omega (arith, rw clear at (split k r)) in
    rw e at (made-lt k r 1 k_in r_in (omega arith))

pub without_clear : (k x : ℕ) → bit_at x k ≡ 0 → without k x ≡ x
without_clear k x clear = omega (arith, rw clear at (split k x))

pub without_set : (k x : ℕ) → bit_at x k ≡ 1 → without k x + 2 ^ k ≡ x
without_set k x set = omega (arith, rw set at (split k x))

pub without_bit : (k x : ℕ) → bit_at (without k x) k ≡ 0
without_bit k x = made_bit k (x / 2 ^ (k + 1)) 0 (x % 2 ^ k) (omega arith) (mod_below x (2 ^ k) (pow_pos k))

pub down_bit : (k c : ℕ) → bit_at c k ≡ 1 → bit_at (c - 2 ^ k) k ≡ 0
down_bit k c set = let e : without k c ≡ c - 2 ^ k = omega (arith, without_set k c set) in rw e at (without_bit k c)

pub down_bit_set : (k c : ℕ) → bit_at c k ≡ 0 → 2 ^ k ≤ c → bit_at (c - 2 ^ k) k ≡ 1
down_bit_set k c clear above =
    elim (cases_eq (bit_at (c - 2 ^ k) k) 1) [
      | inl one ↦ one
      | inr other ↦
          let none : bit_at (c - 2 ^ k) k ≡ 0 = omega (arith, bit_at-lt (c - 2 ^ k) k) in
          let back : c - 2 ^ k + 2 ^ k ≡ c = omega arith in
          absurd (omega (arith, rw back at (up_bit k (c - 2 ^ k) none), clear))
    ]

-- one bit more is exchanged
pub take_above-more : (k r c : ℕ) → take_above (k + 1) (take_bit k r c) (take_bit k c r) ≡ take_above k r c
take_above-more k r c =
    let high = made_high k (c / 2 ^ (k + 1)) (bit_at r k) (c % 2 ^ k) (bit_at-lt r k) (mod_below c (2 ^ k) (pow_pos k)) in
    let rest = made_rest k (r / 2 ^ (k + 1)) (bit_at c k) (r % 2 ^ k) (bit_at-lt c k) (mod_below r (2 ^ k) (pow_pos k)) in
    rw (high, rest)
    (omega (arith, split k c, shr_split c k))
