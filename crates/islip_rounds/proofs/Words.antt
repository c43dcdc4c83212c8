-- Two rows of which bits are exchanged.
use Rattle.std.proofs.Common.{◌≡◌, ℕ, ◌+◌, ◌-◌, ◌*◌, ◌/◌, ◌%◌, ◌^◌, ◌<◌, ◌≤◌, ◌∙◌, bit_and, bit_xor, min, add-zero, arith, ap, inl, inr}
use Rattle.std.specs.Int.{bit_at}
use Rattle.std.proofs.lemmas.Bool.{cases_lt}
use Rattle.std.proofs.lemmas.Nat.{shr-shr, pow_pos}
use Rattle.std.proofs.lemmas.Nat.Bits.{bit_at-lt, bit_at_and, bit_at_xor, bit_at_cat_low, bit_at_cat_high, bit_at-zero}
use Rattle.std_lemmas.proofs.Numbers.{bit_at-mod}
use Rattle.islip_rounds.proofs.Turning.{without_set, down_bit, down_bit_set}

-- a shift to the left, within the word
bit_at-shl_low : (t w c : ℕ) → c < 64 → c < w → bit_at (t * 2 ^ w % 2 ^ 64) c ≡ 0
bit_at-shl_low t w c within low = bit_at-mod (t * 2 ^ w) 64 c within ∙ ((rw add-zero at (bit_at_cat_low t w 0 c low)) ∙ bit_at-zero c)

bit_at-shl_high : (t w c : ℕ) → c < 64 → w ≤ c → bit_at (t * 2 ^ w % 2 ^ 64) c ≡ bit_at t (c - w)
bit_at-shl_high t w c within high = bit_at-mod (t * 2 ^ w) 64 c within ∙ (rw add-zero at (bit_at_cat_high t w 0 c (pow_pos w) high))

module _ (x y mask k : ℕ) (masks : (c : ℕ) → c < 64 → bit_at mask c ≡ 1 - bit_at c k) where
  -- what the rows exchange
  abbrev pub moved : ℕ
  moved = bit_and (bit_xor (x / 2 ^ (2 ^ k)) y) mask

  moved_bit : (c : ℕ) → c < 64 → bit_at moved c ≡ min ((bit_at x (2 ^ k + c) + bit_at y c) % 2) (1 - bit_at c k)
  moved_bit c within =
      let shifted : bit_at (x / 2 ^ (2 ^ k)) c ≡ bit_at x (2 ^ k + c) = ap (λ q. q % 2) (shr-shr x (2 ^ k) c) in
      let both = bit_at_and (bit_xor (x / 2 ^ (2 ^ k)) y) mask c in
      let either = bit_at_xor (x / 2 ^ (2 ^ k)) y c in
      rw (masks c within, either, shifted) at both

  moved_here : (c : ℕ) → c < 64 → bit_at c k ≡ 0 → bit_at moved c ≡ (bit_at x (2 ^ k + c) + bit_at y c) % 2
  moved_here c within clear = omega (arith, moved_bit c within, clear)

  moved_none : (c : ℕ) → c < 64 → bit_at c k ≡ 1 → bit_at moved c ≡ 0
  moved_none c within set = omega (arith, moved_bit c within, set)

  pub high_clear : (c : ℕ) → c < 64 → bit_at c k ≡ 0 → bit_at (bit_xor x (moved * 2 ^ (2 ^ k) % 2 ^ 64)) c ≡ bit_at x c
  high_clear c within clear =
      let none : bit_at (moved * 2 ^ (2 ^ k) % 2 ^ 64) c ≡ 0 = elim (cases_lt c (2 ^ k)) [
        | inl low ↦ bit_at-shl_low moved (2 ^ k) c within low
        | inr above ↦ bit_at-shl_high moved (2 ^ k) c within above ∙ moved_none (c - 2 ^ k) (omega arith) (down_bit_set k c clear above)
      ] in
      omega (arith, bit_at_xor x (moved * 2 ^ (2 ^ k) % 2 ^ 64) c, none, bit_at-lt x c)

  pub high_set : (c : ℕ) → c < 64 → bit_at c k ≡ 1 → bit_at (bit_xor x (moved * 2 ^ (2 ^ k) % 2 ^ 64)) c ≡ bit_at y (c - 2 ^ k)
  high_set c within set =
      let above : 2 ^ k ≤ c = omega (arith, without_set k c set) in
      let back : 2 ^ k + (c - 2 ^ k) ≡ c = omega arith in
      let here = rw back at (moved_here (c - 2 ^ k) (omega arith) (down_bit k c set)) in
      let some = bit_at-shl_high moved (2 ^ k) c within above in
      omega (arith, bit_at_xor x (moved * 2 ^ (2 ^ k) % 2 ^ 64) c, some, here, bit_at-lt x c, bit_at-lt y (c - 2 ^ k))

  pub low_clear : (c : ℕ) → c < 64 → bit_at c k ≡ 0 → bit_at (bit_xor y moved) c ≡ bit_at x (c + 2 ^ k)
  low_clear c within clear =
      let turn : 2 ^ k + c ≡ c + 2 ^ k = omega arith in
      let here = rw turn at (moved_here c within clear) in
      omega (arith, bit_at_xor y moved c, here, bit_at-lt y c, bit_at-lt x (c + 2 ^ k))

  pub low_set : (c : ℕ) → c < 64 → bit_at c k ≡ 1 → bit_at (bit_xor y moved) c ≡ bit_at y c
  low_set c within set = omega (arith, bit_at_xor y moved c, moved_none c within set, bit_at-lt y c)
