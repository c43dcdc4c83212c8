use Rattle.std.proofs.Common.{◌∙◌, arith, sym}
use Rattle.random_picks.proofs.Feeding.{MayAdd-one, is_port-some}
use Rattle.random_picks.proofs.matching.feed_one.Goals as goal

pub add-requires-clause-may : goal.add-requires-clause-may
add-requires-clause-may c =
    let accepts = is_port-some c.args.j _ (sym c.is_port.ensures ∙ c.if-is_port.true) in
    let free = c.requires.free c.in-Some.i c.in-Some.is accepts in
    MayAdd-one _ c.args.out.now c.in-Some.i c.args.j c.with.result c.with.ensures (omega (arith, c.requires.whole.count)) free.0 free.1
