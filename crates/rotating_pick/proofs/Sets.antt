-- Members of a set with one port more, with one less, and of what two sets share.
use Rattle.std.proofs.Common.{◌≡◌, ℕ, ◌-◌, ◌*◌, ◌%◌, ◌/◌, ◌^◌, ◌<◌, ◌≤◌, ◌∙◌, ◌≢◌, ◌↔◌, ◌⊎◌, bit_and, bit_or, w64, refl, sym, subst, arith, inl, inr}
use Rattle.std.specs.Int.{bit_at, bit_not}
use Rattle.std.proofs.lemmas.Bool.{cases_eq, cases_lt}
use Rattle.std.proofs.lemmas.Nat.{and_le_l}
use Rattle.std.proofs.lemmas.Nat.Bits.{bit_at-lt, bit_at_and, bit_at_not, bit_at_ones, bit_at_ones_above, ones_shr, bit_at_set_same, bit_at_set_other}
use Rattle.std.proofs.lemmas.Nat.Bits.{bit_at_clear_same, bit_at_clear_other}
use Rattle.rotating_pick.specs.PortSets.{Has}
use Rattle.rotating_pick.proofs.Bits.{Has-lt}

pub Has-intersection : (a b y : ℕ) → Has (bit_and a b) y ↔ (Has a y × Has b y)
Has-intersection a b y =
    let e = bit_at_and a b y in
    let la = bit_at-lt a y in
    let lb = bit_at-lt b y in
    (λ h. (omega (arith, h), omega (arith, h)), λ h. omega (arith, h.0, h.1))

pub Has-with : (ports x y : ℕ) → x < 64 → Has (bit_or ports (1 * 2 ^ x % 2 ^ 64)) y ↔ ((y ≡ x) ⊎ Has ports y)
Has-with ports x y within =
    elim (cases_eq y x) [
      | inl same ↦ (λ h. inl same, λ s. rw same (bit_at_set_same w64 ports x within))
      | inr other ↦ let e = bit_at_set_other w64 ports x within y other in
          (λ h. inr (sym e ∙ h), λ s. elim s [ inl here ↦ absurd (other here) | inr h ↦ e ∙ h ])
    ]

pub Has-without : (ports x y : ℕ) → ports < 2 ^ 64 → x < 64 → Has (bit_and ports (bit_not w64 (1 * 2 ^ x % 2 ^ 64))) y ↔ ((y ≢ x) × Has ports y)
Has-without ports x y fits within =
    let fewer = and_le_l ports (bit_not w64 (1 * 2 ^ x % 2 ^ 64)) in
    let clear = bit_at_clear_same w64 ports x within in
    elim (cases_eq y x) [
      | inl same ↦ (λ h. absurd (omega (arith, clear, rw same at h)), λ s. absurd (s.0 same))
      | inr other ↦ (
        λ h. (other, sym (bit_at_clear_other w64 ports x within y (Has-lt 64 _ y (omega arith) h) other) ∙ h),
        λ s. bit_at_clear_other w64 ports x within y (Has-lt 64 ports y fits s.1) other ∙ s.1,
      )
    ]

-- a set without one of its members is a smaller number
pub without-lt : (ports x : ℕ) → ports < 2 ^ 64 → x < 64 → Has ports x → bit_and ports (bit_not w64 (1 * 2 ^ x % 2 ^ 64)) < ports
without-lt ports x fits within has =
    let kept = bit_and ports (bit_not w64 (1 * 2 ^ x % 2 ^ 64)) in
    let fewer : kept ≤ ports = and_le_l ports (bit_not w64 (1 * 2 ^ x % 2 ^ 64)) in
    elim (cases_eq kept ports) [
      | inl same ↦ absurd (((Has-without ports x x fits within).0 (subst (λ set. Has set x) (sym same) has)).0 refl)
      | inr other ↦ omega arith
    ]

pub Has-difference : (a b y : ℕ) → a < 2 ^ 64 → b < 2 ^ 64 → Has (bit_and a (bit_not w64 b)) y ↔ (Has a y × (Has b y → ⊥))
Has-difference a b y a_fits b_fits =
    let e = bit_at_and a (bit_not w64 b) y in
    let la = bit_at-lt a y in
    let lb = bit_at-lt b y in
    let ln = bit_at-lt (bit_not w64 b) y in (
      λ h.
          let in_a : Has a y = omega (arith, h) in
          let turned = bit_at_not w64 b y b_fits (Has-lt 64 a y a_fits in_a) in
          (in_a, λ in_b. omega (arith, h, in_b)),
      λ p.
          let turned = bit_at_not w64 b y b_fits (Has-lt 64 a y a_fits p.0) in
          let out : bit_at b y ≡ 0 = elim (cases_eq (bit_at b y) 1) [ inl one ↦ absurd (p.1 one) | inr zero_bit ↦ omega arith ] in
          omega (arith, p.0),
    )

pub Has-all : (n y : ℕ) → 0 < n → n ≤ 64 → Has ((2 ^ 64 - 1) / 2 ^ (64 - n)) y ↔ (y < n)
Has-all n y some size =
    let e : 64 - (64 - n) ≡ n = omega arith in
    rw (ones_shr 64 (64 - n) (omega arith), e)
    (λ h. elim (cases_lt y n) [ inl below ↦ below | inr above ↦ absurd (omega (arith, h, bit_at_ones_above n y above)) ], λ below. bit_at_ones n y below)
