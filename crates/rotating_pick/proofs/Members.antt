-- Sets of one port and of several.
use Rattle.std.proofs.Common.{◌≡◌, ◌≢◌, ◌∙◌, ◌↔◌, ℕ, ◌^◌, sym, subst, arith, inl, inr}
use Rattle.std.proofs.lemmas.Bool.{cases_eq}
use Rattle.std.proofs.lemmas.Nat.Bits.{same_from_bits, bit_at-lt, bit_at-pow_same, bit_at-pow_other}
use Rattle.std.specs.Int.{bit_at}
use Rattle.rotating_pick.specs.PortSets.{Has, HasSeveral}
use Rattle.rotating_pick.proofs.Bits.{no_member-zero}

-- the member of a power of two is its exponent
pub only_member : (j y : ℕ) → Has (2 ^ j) y → y ≡ j
only_member j y member = elim (cases_eq y j) [ inl is ↦ is | inr other ↦ let none = bit_at-pow_other j y other in absurd (omega (arith, none, member)) ]

-- a set with one member is a power of two
pub power-of : (ports j : ℕ) → Has ports j → ((y : ℕ) → Has ports y → y ≡ j) → ports ≡ 2 ^ j
power-of ports j member only =
    same_from_bits ports (2 ^ j)
    (λ i. elim (cases_eq i j) [
      | inl is ↦ subst (λ k. bit_at ports k ≡ bit_at (2 ^ j) k) (sym is) (member ∙ sym (bit_at-pow_same j))
      | inr other ↦ elim (cases_eq (bit_at ports i) 1) [
        | inl one ↦ absurd (other (only i one))
        | inr none ↦ let clear : bit_at ports i ≡ 0 = omega (arith, bit_at-lt ports i) in clear ∙ sym (bit_at-pow_other j i other)
      ]
    ])

-- a power of two has not several members
pub not_several : (j : ℕ) → HasSeveral (2 ^ j) → ⊥
not_several j several = several.differ (only_member j several.one several.has_one ∙ sym (only_member j several.other several.has_other))

-- powers of two differ where their exponents do
pub power-same : (i j : ℕ) → 2 ^ i ≡ 2 ^ j → i ≡ j
power-same i j same = only_member j i (subst (λ set. Has set i) same (bit_at-pow_same i))

-- a set of which a member is taken out and none is left is a power of two
pub power-left : (ports left j : ℕ) → Has ports j → ((y : ℕ) → Has left y ↔ ((y ≢ j) × Has ports y)) → left ≡ 0 → ports ≡ 2 ^ j
power-left ports left j member others none =
    power-of ports j member (λ y there. elim
    (cases_eq y j) [ inl is ↦ is | inr differ ↦ absurd (no_member-zero y (subst (λ set. Has set y) none ((others y).1 (differ, there)))) ])

-- and one of which one is left has several members
pub several-left : (ports left j y : ℕ) → Has ports j → ((x : ℕ) → Has left x ↔ ((x ≢ j) × Has ports x)) → Has left y → HasSeveral ports
several-left ports left j y member others there =
    let of = (others y).0 there in record { one = y; other = j; differ = of.0; has_one = of.1; has_other = member }
