use Rattle.std.proofs.Common.{ℕ, ◌<◌, sym, subst, arith}
use Rattle.rotating_pick.proofs.Bits.{IsAmong-from_members}
use Rattle.slot_match.specs.Matches.{MayAdd}
use Rattle.eslip_rounds.proofs.Taking.{MayAdd-taken, pairs-taken}
use Rattle.eslip_rounds.proofs.accepts.accept.Goals as goal

pub taken-outputs-requires-clause-among : goal.taken-outputs-requires-clause-among
taken-outputs-requires-clause-among c = IsAmong-from_members c.args.n _ (λ j has. (c.requires.open.free j has).0)

pub add-requires-clause-may : goal.add-requires-clause-may
add-requires-clause-may c =
    let from_in : c.accept.result < c.args.n = let below = c.accept.ensures.within in omega arith in
    let P : ℕ → Type 0 = λ k. MayAdd k c.args.out.now c.args.i c.taken-outputs.result c.level_of-level.result c.kind_of-kind.result in
    subst P (sym c.requires.whole.count)
    (MayAdd-taken c.args.n c.args.first_kind c.args.p.now c.args.offers.now c.args.i c.args.out.now c.requires.whole c.requires.open c.level_of-level.result
    c.accept.result c.taken-outputs.result c.kind_of-kind.result c.level_of-level.ensures.value c.kind_of-kind.ensures c.accept.ensures.value from_in
    c.taken-outputs.ensures)

pub returns-clause-pairs : goal.returns-clause-pairs
returns-clause-pairs c =
    let from_in : c.accept.result < c.args.n = let below = c.accept.ensures.within in omega arith in
    pairs-taken c.args.n c.args.first_kind c.args.p.now c.args.offers.now c.args.i c.args.out.now c.requires.whole c.requires.open c.level_of-level.result
    c.accept.result c.taken-outputs.result c.kind_of-kind.result c.level_of-level.ensures.value c.kind_of-kind.ensures c.accept.ensures.value from_in
    c.taken-outputs.ensures
    c.add.new.self c.requires.granted c.level_of-level.ensures.level_in c.add.ensures.count c.add.ensures.fed c.add.ensures.stays
