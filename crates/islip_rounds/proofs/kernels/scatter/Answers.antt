use Rattle.std.proofs.Common.{◌≡◌, ◌<◌, ◌↔◌, ◌⊎◌, length, slice_index, slice_set, refl, sym, subst, inl, inr, arith, get_or-set_same, get_or-set_other}
use Rattle.std.proofs.lemmas.Bool.{cases_eq}
use Rattle.rotating_pick.specs.PortSets.{Has}
use Rattle.rotating_pick.proofs.Bits.{Has-lt}
use Rattle.islip_rounds.proofs.kernels.scatter.Goals as goal

pub without-rest-requires : goal.without-rest-requires
without-rest-requires c = Has-lt 64 c.args.row c.in-Some.j c.ranges.row.fits (c.loop-j.invariant.within c.in-Some.j c.in-Some.ensures.member)

-- output j is next
pub loop-j-preserved : goal.loop-j-preserved
loop-j-preserved c =
    let row = c.args.row in
    let before = c.args.columns.now in
    let was = c.loop-j.invariant in
    let less = c.without-rest.result in
    let taken = c.without-rest.ensures.members in
    let put = c.with.ensures in
    let j = c.in-Some.j in
    let here = c.in-Some.ensures.member in
    let after = slice_set c.loop-j.columns j c.with.result in
    let in_columns : j < length c.loop-j.columns = omega (arith, c.requires.row j (was.within j here)) in
    record {
      within = λ y left. was.within y ((taken y).0 left).1;
      scattered = λ k y.
          elim (cases_eq y j) [
            | inl same ↦
                let at_j : Has (slice_index after j) k ↔ (((k ≡ c.args.i) × Has row j × (Has less j → ⊥)) ⊎ Has (slice_index before j) k) =
                rw get_or-set_same (
                  λ has. elim ((put k).0 has) [
                    | inl is_i ↦ inl (is_i, was.within j here, λ left. ((taken j).0 left).0 refl)
                    | inr old ↦ elim ((was.scattered k j).0 old) [ inl out ↦ absurd (out.2 here) | inr before_too ↦ inr before_too ]
                  ],
                  λ s. (put k).1 (elim s [ inl new ↦ inl new.0 | inr before_too ↦ inr ((was.scattered k j).1 (inr before_too)) ]),
                ) in
                subst (λ z. Has (slice_index after z) k ↔ (((k ≡ c.args.i) × Has row z × (Has less z → ⊥)) ⊎ Has (slice_index before z) k)) (sym same) at_j
            | inr other ↦
                let same = was.scattered k y in
                rw get_or-set_other (
                  λ has. elim (same.0 has) [ inl out ↦ inl (out.0, out.1, λ left. out.2 ((taken y).0 left).1) | inr before_too ↦ inr before_too ],
                  λ s. same.1 (elim s [ inl new ↦ inl (new.0, new.1, λ left. new.2 ((taken y).1 (other, left))) | inr before_too ↦ inr before_too ]),
                )
          ];
    }
