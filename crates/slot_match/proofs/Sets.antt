-- Sets of ports made of a test, and sets with the same members.
use Rattle.std.proofs.Common.{◌≡◌, ℕ, zero, suc, ◌+◌, ◌-◌, ◌*◌, ◌^◌, ◌<◌, ◌↔◌, ◌⊎◌, ◌∙◌, Bool, true, false, cond, refl, sym, ap, subst, inl, inr, arith}
use Rattle.std.specs.Int.{bit_at}
use Rattle.std.proofs.lemmas.Bool.{cases_eq, cases_lt}
use Rattle.std.proofs.lemmas.Nat.{pow_pos}
use Rattle.std.proofs.Math.Nat.{pow-suc}
use Rattle.std.proofs.lemmas.Nat.Bits.{same_from_bits, bit_at_above, bit_at_cat_low, bit_at_cat_high, bit_at-lt}
use Rattle.rotating_pick.specs.PortSets.{Has}
use Rattle.rotating_pick.proofs.Bits.{Has-lt, no_member-zero}
use Rattle.rotating_pick.proofs.Picking.{least}
use Rattle.slot_match.specs.Parts.{set_of}

-- a set that is empty has no member
pub zero-has : (ports j : ℕ) → ports ≡ 0 → Has ports j → ⊥
zero-has ports j e has = no_member-zero j (subst (λ set. Has set j) e has)

-- the bit of a port that is in both sets or in neither
pub Has-bit : (a b j : ℕ) → (Has a j ↔ Has b j) → bit_at a j ≡ bit_at b j
Has-bit a b j same = elim (cases_eq (bit_at a j) 1) [
  | inl has ↦ has ∙ sym (same.0 has)
  | inr lacks ↦ elim (cases_eq (bit_at b j) 1) [
    | inl has ↦ absurd (lacks (same.1 has))
    | inr also ↦ let la = bit_at-lt a j in let lb = bit_at-lt b j in omega arith
  ]
]

-- sets with the same members are one
pub Has-same : (a b : ℕ) → ((j : ℕ) → Has a j ↔ Has b j) → a ≡ b
Has-same a b same = same_from_bits a b (λ j. Has-bit a b j (same j))

-- a set has a port or it has not
pub Has-or : (ports j : ℕ) → Has ports j ⊎ (Has ports j → ⊥)
Has-or ports j = cases_eq (bit_at ports j) 1

-- a set that is not empty has a member
pub Has-some : (ports : ℕ) → ports < 2 ^ 64 → (((j : ℕ) → Has ports j → ⊥) → ⊥) → (j : ℕ) × Has ports j
Has-some ports fits not_empty = elim (least (Has ports) (Has-or ports) 64) [
  | inl found ↦ (found.0, found.2)
  | inr none ↦ absurd (not_empty (λ j has. none j (Has-lt 64 ports j fits has) has))
]

member : (n : ℕ) (b : Bool) (lower : ℕ) → lower < 2 ^ n → (j : ℕ) → Has (lower + cond b (2 ^ n) 0) j ↔ (((j < n) × Has lower j) ⊎ ((j ≡ n) × (b ≡ true)))
member n false lower fits j =
    let e : lower + 0 ≡ lower = omega arith in
    rw e (
      λ has. elim (cases_lt j n) [ inl below ↦ inl (below, has) | inr above ↦ absurd (omega (arith, bit_at_above lower n j fits above, has)) ],
      λ s. elim s [ inl p ↦ p.1 | inr p ↦ let no_bit = p.1 in absurd (cc) ],
    )
member n true lower fits j =
    let e : lower + 2 ^ n ≡ 1 * 2 ^ n + lower = omega arith in
    rw e
    (elim (cases_lt j n) [
      | inl below ↦
          let low = bit_at_cat_low 1 n lower j below in
          (λ has. inl (below, sym low ∙ has), λ s. elim s [ inl p ↦ low ∙ p.1 | inr p ↦ absurd (let at = p.0 in omega arith) ])
      | inr above ↦
          let high : bit_at (1 * 2 ^ n + lower) j ≡ bit_at 1 (j - n) = bit_at_cat_high 1 n lower j fits above in
          elim (cases_eq j n) [
            | inl same ↦
                let e : j - n ≡ 0 = omega arith in
                let one : bit_at 1 (j - n) ≡ 1 = rw e refl in
                (λ has. inr (same, refl), λ s. high ∙ one)
            | inr other ↦ (
              λ has. absurd (let clear : bit_at 1 (j - n) ≡ 0 = bit_at_above 1 1 (j - n) (omega arith) (omega arith) in omega (arith, has)),
              λ s. elim s [ inl p ↦ absurd (let below = p.0 in omega arith) | inr p ↦ absurd (other p.0) ],
            )
          ]
    ])

fits_more : (n : ℕ) (b : Bool) (lower : ℕ) → lower < 2 ^ n → lower + cond b (2 ^ n) 0 < 2 ^ suc n
fits_more n false lower fits = let e : 2 ^ suc n ≡ 2 ^ n + 2 ^ n = omega (arith, pow-suc 2 n) in let some = pow_pos n in omega arith
fits_more n true lower fits = let e : 2 ^ suc n ≡ 2 ^ n + 2 ^ n = omega (arith, pow-suc 2 n) in omega arith

pub set_of-lt : (n : ℕ) (test : ℕ → Bool) → set_of n test < 2 ^ n
set_of-lt zero test = omega arith
set_of-lt (suc n) test = fits_more n (test n) (set_of n test) (set_of-lt n test)

-- the members of a set made of a test
pub Has-set_of : (n : ℕ) (test : ℕ → Bool) (j : ℕ) → Has (set_of n test) j ↔ ((j < n) × (test j ≡ true))
Has-set_of zero test j = (λ has. absurd (no_member-zero j has), λ p. absurd (let below = p.0 in omega arith))
Has-set_of (suc n) test j =
    let step = member n (test n) (set_of n test) (set_of-lt n test) j in
    let before = Has-set_of n test j in (
      λ has. elim (step.0 has) [
        | inl p ↦ let q = before.0 p.1 in (let below = q.0 in omega arith, q.1)
        | inr p ↦ (let at = p.0 in omega arith, ap test p.0 ∙ p.1)
      ],
      λ p. elim (cases_eq j n) [
        | inl same ↦ step.1 (inr (same, sym (ap test same) ∙ p.1))
        | inr other ↦ let below : j < n = let at = p.0 in omega arith in step.1 (inl (below, before.1 (below, p.1)))
      ],
    )
