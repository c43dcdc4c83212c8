-- A set of ports with one port more, as a number.
use Rattle.std.proofs.Common.{◌≡◌, ℕ, List, [], Option, None, Some, ◌^◌, ◌↔◌, ◌⊎◌, ◌<◌, bit_or, refl, subst, arith, inl, inr}
use Rattle.std.specs.Int.{bit_at}
use Rattle.std.proofs.lemmas.Bool.{cases_eq}
use Rattle.std.proofs.lemmas.Nat.Bits.{bit_at-lt, bit_at_or, bit_at-pow_same, bit_at-pow_other, same_from_bits}
use Rattle.rotating_pick.specs.PortSets.{Has, IsAmong}
use Rattle.rotating_pick.proofs.Bits.{Has-lt, IsAmong-from_members, no_member-zero}
use Rattle.forward_table.specs.Routes.{IsFan}
use Rattle.forward_table.specs.Text.{comma, parts}

-- the set whose members are those of a set and one port more
pub with_is : (set port more : ℕ) → ((y : ℕ) → Has more y ↔ ((y ≡ port) ⊎ Has set y)) → more ≡ bit_or set (2 ^ port)
with_is set port more members =
    same_from_bits more (bit_or set (2 ^ port))
    (λ y.
    let e = bit_at_or set (2 ^ port) y in
    elim (cases_eq y port) [
      | inl same ↦ let there : bit_at more y ≡ 1 = (members y).1 (inl same) in let bit : bit_at (2 ^ port) y ≡ 1 = rw same (bit_at-pow_same port) in
          omega (arith, bit_at-lt set y)
      | inr other ↦ let bit : bit_at (2 ^ port) y ≡ 0 = bit_at-pow_other port y other in
          elim (cases_eq (bit_at set y) 1) [
            | inl has ↦ let there : bit_at more y ≡ 1 = (members y).1 (inr has) in omega arith
            | inr absent ↦
                let out : bit_at more y ≡ 1 → ⊥ = λ h. elim ((members y).0 h) [ inl same ↦ other same | inr has ↦ absent has ] in
                omega (arith, bit_at-lt set y, bit_at-lt more y, out)
          ]
    ])

-- the parts of a list that is not read yet
abbrev pub parts_left : Option (List ℕ) → List (List ℕ)
parts_left None = []
parts_left (Some list) = parts comma list

-- such a set is a fan-out, where the set and the port are of the switch
pub IsFan-with : (n set port more : ℕ) → IsAmong n set → port < n → ((y : ℕ) → Has more y ↔ ((y ≡ port) ⊎ Has set y)) → IsFan n more
IsFan-with n set port more among below members = record {
  some = elim (cases_eq more 0) [
    | inl none ↦ absurd (no_member-zero port (subst (λ ports. Has ports port) none ((members port).1 (inl refl))))
    | inr other ↦ omega arith
  ];
  among = IsAmong-from_members n more (λ x has. elim ((members x).0 has) [ inl same ↦ omega arith | inr old ↦ Has-lt n set x among old ]);
}
