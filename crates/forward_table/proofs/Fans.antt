-- The fan-out of a list of ports, taken one port after another, is the set of them.
use Rattle.std.proofs.Common.{◌≡◌, ℕ, zero, suc, ◌<◌, ◌^◌, ◌↔◌, ◌⊎◌, List, [], ◌∷◌, length, Bool, true, false, cond, Some, Ok, Err, slice_index_or}
use Rattle.std.proofs.Common.{refl, sym, ap, ◌∙◌, inl, inr, arith}
use Rattle.std.specs.Prelude.{bit_or, nat_lt, nat_le, fold, find, Contains}
use Rattle.std.specs.Int.{bit_at}
use Rattle.std.proofs.lemmas.Bool.{cases_eq, ltb-true, ltb-false, leb-true, leb-false}
use Rattle.std.proofs.lemmas.Nat.Bits.{bit_at-lt, bit_at_or, bit_at-pow_same, bit_at-pow_other, same_from_bits}
use Rattle.rotating_pick.specs.PortSets.{Has}
use Rattle.rotating_pick.proofs.Bits.{no_member-zero}
use Rattle.forward_table.specs.Forms.{set_of, unless_beyond, fan_of}
use Rattle.forward_table.specs.Steps.{with_port}

bit_or_assoc : (a b c : ℕ) → bit_or (bit_or a b) c ≡ bit_or a (bit_or b c)
bit_or_assoc a b c =
    same_from_bits (bit_or (bit_or a b) c) (bit_or a (bit_or b c))
    (λ y. omega (arith, bit_at_or (bit_or a b) c y, bit_at_or a b y, bit_at_or a (bit_or b c) y, bit_at_or b c y))

bit_or-zero : (a : ℕ) → bit_or a 0 ≡ a
bit_or-zero a = same_from_bits (bit_or a 0) a (λ y. let none : bit_at 0 y ≡ 1 → ⊥ = no_member-zero y in omega (arith, bit_at_or a 0 y, bit_at-lt 0 y, none))

zero-bit_or : (a : ℕ) → bit_or 0 a ≡ a
zero-bit_or a = same_from_bits (bit_or 0 a) a (λ y. let none : bit_at 0 y ≡ 1 → ⊥ = no_member-zero y in omega (arith, bit_at_or 0 a y, bit_at-lt 0 y, none))

-- a port that the switch does not have stays the answer
stays : (n beyond : ℕ) (ports : List ℕ) → fold (with_port n) (Err beyond) ports ≡ Err beyond
stays n beyond [] = refl
stays n beyond (port ∷ ports) = stays n beyond ports

-- one port, where the rest of them is known
folded_more : (n set port : ℕ) (ports : List ℕ)
    → fold (with_port n) (Ok (bit_or set (2 ^ port))) ports ≡ unless_beyond (find (λ port. nat_le n port) ports) (bit_or (bit_or set (2 ^ port)) (set_of ports))
    → (lt : Bool) → nat_lt port n ≡ lt → (le : Bool) → nat_le n port ≡ le
    → fold (with_port n) (cond lt (Ok (bit_or set (2 ^ port))) (Err port)) ports ≡ unless_beyond (cond le (Some port) (find (λ port. nat_le n port) ports))
    (bit_or set (bit_or (2 ^ port) (set_of ports)))
folded_more n set port ports rest true lt false le = rest
    ∙ ap (λ s. unless_beyond (find (λ port. nat_le n port) ports) s) (bit_or_assoc set (2 ^ port) (set_of ports))
folded_more n set port ports rest false lt true le = stays n port ports
folded_more n set port ports rest true lt true le = let not : ⊥ = omega (arith, ltb-true port n lt, leb-true n port le) in absurd not
folded_more n set port ports rest false lt false le = let not : ⊥ = omega (arith, ltb-false port n lt, leb-false n port le) in absurd not

-- the ports that are left, one after another
folded_from : (n set : ℕ) (ports : List ℕ) → fold (with_port n) (Ok set) ports ≡ unless_beyond (find (λ port. nat_le n port) ports) (bit_or set (set_of ports))
folded_from n set [] = ap Ok (sym (bit_or-zero set))
folded_from n set (port ∷ ports) = folded_more n set port ports (folded_from n (bit_or set (2 ^ port)) ports) (nat_lt port n) refl (nat_le n port) refl

-- the fan-out, as it is taken
pub fan_of-folded : (n : ℕ) → fan_of n ≡ (λ ports. fold (with_port n) (Ok 0) ports)
fan_of-folded n = λ j ports. sym (folded_from n 0 ports ∙ ap (λ s. unless_beyond (find (λ port. nat_le n port) ports) s) (zero-bit_or (set_of ports))) j

-- ---- the members of the set

Has-more : (port set x : ℕ) → Has (bit_or (2 ^ port) set) x ↔ ((port ≡ x) ⊎ Has set x)
Has-more port set x =
    let e = bit_at_or (2 ^ port) set x in
    elim (cases_eq x port) [
      | inl same ↦
          let bit : bit_at (2 ^ port) x ≡ 1 = rw same (bit_at-pow_same port) in
          (λ h. inl (sym same), λ h. omega (arith, bit_at-lt set x))
      | inr other ↦
          let bit : bit_at (2 ^ port) x ≡ 0 = bit_at-pow_other port x other in
          (λ h. inr (omega arith), λ h. elim h [ inl same ↦ absurd (other (sym same)) | inr has ↦ omega arith ])
    ]

contains_cases : (port : ℕ) (ports : List ℕ) (x k : ℕ) → k < length (port ∷ ports) → slice_index_or (port ∷ ports) k x ≡ x → (port ≡ x) ⊎ Contains ports x
contains_cases port ports x zero below is = inl is
contains_cases port ports x (suc k) below is = inr (k, omega arith, is)

contains_more : (port : ℕ) (ports : List ℕ) (x : ℕ) → (port ≡ x) ⊎ Contains ports x → Contains (port ∷ ports) x
contains_more port ports x (inl is) = (0, omega arith, is)
contains_more port ports x (inr there) = (suc there.0, omega (arith, there.1), there.2)

pub named : (ports : List ℕ) (x : ℕ) → Has (set_of ports) x ↔ Contains ports x
named [] x = (λ h. absurd (no_member-zero x h), λ h. absurd (omega (arith, h.1)))
named (port ∷ ports) x =
    let rest = named ports x in
    let here = Has-more port (set_of ports) x in (
      λ h. contains_more port ports x (elim (here.0 h) [ inl same ↦ inl same | inr has ↦ inr (rest.0 has) ]),
      λ h. here.1 (elim (contains_cases port ports x h.0 h.1 h.2) [ inl same ↦ inl same | inr there ↦ inr (rest.1 there) ]),
    )
