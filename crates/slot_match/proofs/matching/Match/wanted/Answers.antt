use Rattle.std.proofs.Common.{◌<◌, length, refl, sym, ap, subst, inl, inr, arith}
use Rattle.rotating_pick.specs.declared.kinds.Kind.TheVariants.{Multi}
use Rattle.slot_match.specs.Matches.{IsFreeInput, IsMatch}
use Rattle.slot_match.proofs.Maximal.{IsServed-level, Wants-iff_rest}
use Rattle.slot_match.proofs.matching.Match.wanted.Goals as goal

pub returns-then-contains : goal.returns-then-contains
returns-then-contains c j =
    let free : IsFreeInput c.args.self.now c.args.input =
    subst (λ m. IsFreeInput m c.args.input) c.self.view_is
    ((c.self.invariant.sets.inputs_left c.args.input).0 (c.contains.ensures.0 c.if-contains.true)).1 in (
      λ has. inl (free, (c.named.ensures j).0 has),
      λ wants. elim wants [ inl p ↦ (c.named.ensures j).1 p.1 | inr p ↦ absurd (free p.1.some.0 p.0 Multi p.1.some.1) ],
    )

pub rest_of-requires : goal.rest_of-requires
rest_of-requires c =
    let whole = subst (λ m. IsMatch c.self.inside.ports m) c.self.view_is c.self.invariant.sets.whole in
    IsServed-level c.self.inside.ports c.args.self.now whole c.args.input c.in-Some.part c.in-Some.ensures.part

pub returns-in-Some : goal.returns-in-Some
returns-in-Some c j =
    let wants = Wants-iff_rest c.args.self.now c.args.input c.in-Some.part c.args.row.now c.in-Some.ensures.part j in
    let rest = c.rest_of.ensures j in
    (λ has. wants.1 (rest.0 has), λ w. rest.1 (wants.0 w))

pub returns-in-None : goal.returns-in-None
returns-in-None c j =
    let input_in : c.args.input < c.self.inside.ports = let size = ap length c.self.view_is in let whole = c.self.invariant.sets.whole.count in omega arith in
    let free = subst (λ m. IsFreeInput m c.args.input) (sym c.self.view_is) (c.in-None.ensures.free.0 refl) in
    absurd (let holds = c.contains.ensures.1 ((c.self.invariant.sets.inputs_left c.args.input).1 (input_in, free)) in let no = c.if-contains.false in cc)
