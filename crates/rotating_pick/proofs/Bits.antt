-- Members of a set of ports, and of a turned one, by their bits.
use Rattle.std.proofs.Common.{◌≡◌, ℕ, ◌+◌, ◌-◌, ◌*◌, ◌/◌, ◌%◌, ◌^◌, ◌<◌, ◌≤◌, ◌∙◌, bit_and, bit_or, sym, ap, arith, inl, inr}
use Rattle.std.specs.Int.{bit_at}
use Rattle.std.proofs.Math.Nat.{mod-eq_of_lt}
use Rattle.std.proofs.lemmas.Bool.{cases_eq, cases_lt}
use Rattle.std.proofs.lemmas.Nat.{shr-shr, shr_below, and_mask, mul-add-lt, pow-add, pow_pos, mod_below, one_shl, shl_whole, or_shifted}
use Rattle.std.proofs.lemmas.Nat.Bits.{same_from_bits, bit_at_above, bit_at_cat_low, bit_at_cat_high, bit_at-lt, bit_at-zero}
use Rattle.std_lemmas.proofs.Numbers.{mod_once, bit_at-mod}
use Rattle.rotating_pick.specs.PortSets.{Has}

-- a member of a set of n ports is below n
pub Has-lt : (n ports x : ℕ) → ports < 2 ^ n → Has ports x → x < n
Has-lt n ports x among has = elim (cases_lt x n) [ inl below ↦ below | inr above ↦ absurd (omega (arith, bit_at_above ports n x among above, has)) ]

-- the number 0 is the empty set
pub no_member-zero : (x : ℕ) → Has 0 x → ⊥
no_member-zero x has = omega (arith, has, bit_at-zero x)

-- and a set with no member is the number 0
pub zero-no_members : (ports : ℕ) → ((x : ℕ) → Has ports x → ⊥) → ports ≡ 0
zero-no_members ports none =
    same_from_bits ports 0
    (λ i. elim (cases_eq (bit_at ports i) 1) [
      | inl one ↦ absurd (none i one)
      | inr other ↦ let clear : bit_at ports i ≡ 0 = omega (arith, bit_at-lt ports i) in clear ∙ sym (bit_at-zero i)
    ])

-- the lowest `by` ports, above the j others: what `rotate` computes
abbrev pub turned : ℕ → ℕ → ℕ → ℕ
turned j by ports = (ports % 2 ^ by) * 2 ^ j + ports / 2 ^ by

pub turned-lt : (j by ports : ℕ) → ports < 2 ^ (j + by) → turned j by ports < 2 ^ (j + by)
turned-lt j by ports among =
    rw pow-add (mul-add-lt (ports % 2 ^ by) (2 ^ j) (ports / 2 ^ by) (2 ^ by) (mod_below _ _ (pow_pos by)) (shr_below ports j by among))

pub bit_at-turned : (j by ports x : ℕ) → ports < 2 ^ (j + by) → x < j + by → bit_at (turned j by ports) x ≡ bit_at ports ((x + by) % (j + by))
bit_at-turned j by ports x among within =
    elim (cases_lt x j) [
      | inl low ↦
          let short : x + by < j + by = omega arith in
          let e : (x + by) % (j + by) ≡ by + x = mod-eq_of_lt short ∙ omega arith in
          rw e (bit_at_cat_low (ports % 2 ^ by) j (ports / 2 ^ by) x low ∙ ap (λ q. q % 2) (shr-shr ports by x))
      | inr high ↦
          let e : (x + by) % (j + by) ≡ x - j = mod_once (j + by) (x + by) (omega arith) (omega arith) ∙ omega arith in
          rw e (bit_at_cat_high (ports % 2 ^ by) j (ports / 2 ^ by) x (shr_below ports j by among) high ∙ bit_at-mod ports by (x - j) (omega arith))
    ]

-- what `rotate` computes
pub rotated-is : (n by ports : ℕ) → by < n → n ≤ 64 → 0 < by → ports < 2 ^ n
    → bit_or (bit_and ports (1 * 2 ^ by % 2 ^ 64 - 1) * 2 ^ (n - by) % 2 ^ 64) (ports / 2 ^ by) ≡ turned (n - by) by ports
rotated-is n by ports h size some among =
    let e : n - by + by ≡ n = omega arith in
    let low : ports % 2 ^ by < 2 ^ by = mod_below _ _ (pow_pos by) in
    rw (one_shl by 64 (omega arith), and_mask ports by, shl_whole (ports % 2 ^ by) by (n - by) 64 low (omega arith))
    (or_shifted (ports % 2 ^ by) (n - by) (ports / 2 ^ by) (shr_below ports (n - by) by (rw e among)))

-- a set whose members are all below n
pub IsAmong-from_members : (n ports : ℕ) → ((x : ℕ) → Has ports x → x < n) → ports < 2 ^ n
IsAmong-from_members n ports members =
    let low : ports % 2 ^ n < 2 ^ n = mod_below _ _ (pow_pos n) in
    let same : ports ≡ ports % 2 ^ n =
    same_from_bits ports (ports % 2 ^ n)
    (λ i. elim (cases_lt i n) [
      | inl below ↦ sym (bit_at-mod ports n i below)
      | inr above ↦
          let none : bit_at ports i ≡ 0 = elim (cases_lt 0 (bit_at ports i)) [
            | inl some ↦ absurd (omega (arith, members i (omega (arith, bit_at-lt ports i))))
            | inr clear ↦ omega arith
          ] in
          none ∙ sym (bit_at_above (ports % 2 ^ n) n i low above)
    ]) in
    rw same low
