-- The marks of outputs: a level by two bits, and a kind.
use Rattle.std.proofs.Common.{◌≡◌, ℕ, ◌+◌, ◌*◌, ◌%◌, ◌<◌, ◌≤◌, ◌∙◌, ◌↔◌, ◌==◌, cond, refl, sym, ap, inl, inr, arith}
use Rattle.std.proofs.Common.{eq-eqb, ne_eqb}
use Rattle.std.specs.Int.{bit_at}
use Rattle.std.proofs.lemmas.Bool.{cases_eq, cases_lt}
use Rattle.std.proofs.lemmas.Nat.Bits.{bit_at-lt}
use Rattle.rotating_pick.specs.PortSets.{Has}
use Rattle.rotating_pick.specs.declared.kinds.Kind.{Kind}
use Rattle.rotating_pick.specs.declared.kinds.Kind.TheVariants.{Uni, Multi}
use Rattle.slot_match.specs.declared.marks.Marks.{Marks}
use Rattle.slot_match.specs.FieldSteps.{level_at, kind_at}
use Rattle.slot_match.proofs.Sets.{Has-bit}

-- bit 0 of a level is set at the odd ones, and bit 1 from 2 on
two_bits : (a b level : ℕ) → a < 2 → b < 2 → level < 4 → ((level % 2 ≡ 1) ↔ (a ≡ 1)) → ((2 ≤ level) ↔ (b ≡ 1)) → a + 2 * b ≡ level
two_bits a b level a_bit b_bit four low high = elim (cases_eq (level % 2) 1) [
  | inl odd ↦ let one = low.0 odd in elim (cases_lt level 2) [
    | inl under ↦ elim (cases_eq b 1) [ inl set ↦ absurd (let over = high.1 set in omega arith) | inr clear ↦ omega arith ]
    | inr over ↦ let set = high.0 over in omega arith
  ]
  | inr even ↦ elim (cases_eq a 1) [
    | inl one ↦ absurd (even (low.1 one))
    | inr none ↦ elim (cases_lt level 2) [
      | inl under ↦ elim (cases_eq b 1) [ inl set ↦ absurd (let over = high.1 set in omega arith) | inr clear ↦ omega arith ]
      | inr over ↦ let set = high.0 over in omega arith
    ]
  ]
]

-- an output is at the level of which both sets have its bits
pub level_at-from : (marks : Marks) (j level : ℕ) → level < 4 → ((level % 2 ≡ 1) ↔ Has marks.low j) → ((2 ≤ level) ↔ Has marks.high j)
    → level_at marks j ≡ level
unfolding level_at
level_at-from marks j level four low high =
    two_bits (bit_at marks.low j) (bit_at marks.high j) level (bit_at-lt marks.low j) (bit_at-lt marks.high j) four low high

-- what the sets have of an output at the level
pub level_at-bits : (marks : Marks) (j level : ℕ) → level_at marks j ≡ level → ((level % 2 ≡ 1) ↔ Has marks.low j) × ((2 ≤ level) ↔ Has marks.high j)
unfolding level_at
level_at-bits marks j level e =
    let a_bit = bit_at-lt marks.low j in
    let b_bit = bit_at-lt marks.high j in
    ((λ odd. omega arith, λ set. omega (arith, set)), (λ over. omega arith, λ set. omega (arith, set)))

-- an output of which the sets have the same is at the same level
pub level_at-same : (a b : Marks) (j : ℕ) → (Has a.low j ↔ Has b.low j) → (Has a.high j ↔ Has b.high j) → level_at a j ≡ level_at b j
unfolding level_at
level_at-same a b j low high = let l = Has-bit a.low b.low j low in let h = Has-bit a.high b.high j high in omega arith

-- an output is of multicast where it is in their set
pub kind_at-multi : (marks : Marks) (j : ℕ) → (kind_at marks j ≡ Multi) ↔ Has marks.multi j
unfolding kind_at
kind_at-multi marks j = elim (cases_eq (bit_at marks.multi j) 1) [
  | inl one ↦ (λ _. one, λ _. rw (eq-eqb (bit_at marks.multi j) 1 one) refl)
  | inr none ↦ (
    λ e. absurd (let uni : kind_at marks j ≡ Uni = rw (ne_eqb (bit_at marks.multi j) 1 none) refl in differ (sym uni ∙ e)),
    λ one. absurd (none one),
  )
] where
  differ : Uni ≡ Multi → ⊥
  differ e = cc

-- an output is of the kind that the set says
pub kind_at-from : (marks : Marks) (j : ℕ) (kind : Kind) → ((kind ≡ Multi) ↔ Has marks.multi j) → kind_at marks j ≡ kind
kind_at-from marks j Multi same = (kind_at-multi marks j).1 (same.0 refl)
kind_at-from marks j Uni same = only_uni (kind_at marks j) (λ e. let multi = same.1 ((kind_at-multi marks j).0 e) in cc) where
  only_uni : (a : Kind) → (a ≡ Multi → ⊥) → a ≡ Uni
  only_uni Uni h = refl
  only_uni Multi h = absurd (h refl)

-- an output of which the sets say the same is of the same kind
pub kind_at-same : (a b : Marks) (j : ℕ) → (Has a.multi j ↔ Has b.multi j) → kind_at a j ≡ kind_at b j
unfolding kind_at
kind_at-same a b j same = ap (λ (x : ℕ). cond (x == 1) Multi Uni) (Has-bit a.multi b.multi j same)
