use Rattle.std.proofs.Common.{inl, inr, refl}
use Rattle.rotating_pick.specs.declared.kinds.Kind.TheVariants.{Uni}
use Rattle.slot_match.proofs.Sets.{zero-has}
use Rattle.eslip_rounds.proofs.Taking.{IsOpen-waiting, pairs-more}
use Rattle.unicast_slots.specs.RoundSteps.{offers_of}
use Rattle.unicast_slots.proofs.accepts.accept_all.Goals as goal

pub accept-requires-clause-open : goal.accept-requires-clause-open
accept-requires-clause-open c =
    IsOpen-waiting c.args.n Uni c.args.p.now (offers_of c.args.offers.now) c.args.out.now c.loop-i.out c.loop-i.rest c.requires.open
    c.loop-i.invariant.pairs c.in-Some.i c.in-Some.ensures.member (c.loop-i.invariant.left c.in-Some.i c.in-Some.ensures.member)

pub loop-i-preserved : goal.loop-i-preserved
loop-i-preserved c =
    record {
      whole = c.accept.ensures.whole;
      left = λ x has. c.loop-i.invariant.left x ((c.without-rest.ensures.members x).0 has).1;
      pairs = pairs-more c.args.n Uni c.args.p.now (offers_of c.args.offers.now) c.args.out.now c.loop-i.out c.loop-i.rest c.requires.open
          c.loop-i.invariant.pairs c.in-Some.i c.without-rest.result c.accept.new.out c.in-Some.ensures.member c.without-rest.ensures.members
          c.accept.ensures.pairs;
    }

pub returns-clause-pairs : goal.returns-clause-pairs
returns-clause-pairs c x j level kind =
    let said = c.loop-i.invariant.pairs x j level kind in
    let empty = c.in_default.ensures.none.0 refl in (
      λ s. elim (said.0 s) [ inl old ↦ inl old | inr p ↦ inr p.1 ],
      λ s. said.1 (elim s [ inl old ↦ inl old | inr taken ↦ inr (λ has. zero-has c.loop-i.rest x empty has, taken) ]),
    )
