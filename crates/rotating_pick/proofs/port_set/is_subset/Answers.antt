use Rattle.std.proofs.Common.{◌≡◌, ℕ, bit_and, w64, subst, arith, tests, inl, inr}
use Rattle.std.specs.Int.{bit_at, bit_not}
use Rattle.std.proofs.lemmas.Bool.{cases_eq}
use Rattle.rotating_pick.specs.PortSets.{Has}
use Rattle.rotating_pick.proofs.Bits.{no_member-zero, zero-no_members}
use Rattle.rotating_pick.proofs.Sets.{Has-difference}
use Rattle.rotating_pick.proofs.port_set.is_subset.Goals as goal

pub returns : goal.returns
returns c =
    let inner = c.args.inner in
    let outer = c.args.outer in
    let outside = bit_and inner (bit_not w64 outer) in
    let members = λ (x : ℕ). Has-difference inner outer x c.ranges.inner.fits c.ranges.outer.fits in (
      λ true x has.
          let zero_set : outside ≡ 0 = grind (arith, tests, true) in
          elim (cases_eq (bit_at outer x) 1) [
            | inl there ↦ there
            | inr absent ↦ absurd (no_member-zero x (subst (λ ports. Has ports x) zero_set ((members x).1 (has, absent))))
          ],
      λ within.
          let zero_set : outside ≡ 0 = zero-no_members outside (λ x has. ((members x).0 has).1 (within x ((members x).0 has).0)) in
          grind (arith, tests, zero_set),
    )
