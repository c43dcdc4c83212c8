use Rattle.std.proofs.Common.{ℕ, ◌<◌, refl, sym, subst, arith}
use Rattle.rotating_pick.specs.declared.kinds.Kind.TheVariants.{Uni}
use Rattle.rotating_pick.proofs.Bits.{IsAmong-from_members}
use Rattle.slot_match.specs.Matches.{MayAdd}
use Rattle.eslip_rounds.proofs.Taking.{MayAdd-taken, pairs-taken}
use Rattle.unicast_slots.specs.RoundSteps.{offers_of}
use Rattle.unicast_slots.proofs.accepts.accept.Goals as goal

pub taken-output-requires-clause-among : goal.taken-output-requires-clause-among
taken-output-requires-clause-among c = IsAmong-from_members c.args.n _ (λ j has. (c.requires.open.free j has).0)

pub add-requires-clause-may : goal.add-requires-clause-may
add-requires-clause-may c =
    let from_in : c.accept.result < c.args.n = let below = c.accept.ensures.within in let ports = c.requires.ports in omega arith in
    let P : ℕ → Type 0 = λ k. MayAdd k c.args.out.now c.args.i c.taken-output.result 0 Uni in
    subst P (sym c.requires.whole.count)
    (MayAdd-taken c.args.n Uni c.args.p.now (offers_of c.args.offers.now) c.args.i c.args.out.now c.requires.whole c.requires.open 0
    c.accept.result c.taken-output.result Uni refl refl c.accept.ensures.value from_in c.taken-output.ensures)

pub returns-clause-pairs : goal.returns-clause-pairs
returns-clause-pairs c =
    let from_in : c.accept.result < c.args.n = let below = c.accept.ensures.within in let ports = c.requires.ports in omega arith in
    pairs-taken c.args.n Uni c.args.p.now (offers_of c.args.offers.now) c.args.i c.args.out.now c.requires.whole c.requires.open 0
    c.accept.result c.taken-output.result Uni refl refl c.accept.ensures.value from_in c.taken-output.ensures
    c.add.new.self c.requires.granted (omega arith) c.add.ensures.count c.add.ensures.fed c.add.ensures.stays
