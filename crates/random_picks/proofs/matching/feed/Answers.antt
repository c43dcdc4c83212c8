use Rattle.std.proofs.Common.{◌∙◌, arith}
use Rattle.random_picks.proofs.Feeding.{AreFed-first, AreFed-next, still-free}
use Rattle.random_picks.proofs.matching.feed.Goals as goal

pub loop-j-init : goal.loop-j-init
loop-j-init c = AreFed-first c.args.n c.args.granted.now c.args.accepted.now c.args.out.now c.requires.whole

pub feed_one-requires-clause-free : goal.feed_one-requires-clause-free
feed_one-requires-clause-free c = λ i grants accepts.
    let free = c.requires.free i c.loop-j.j grants in (
      still-free c.args.n c.loop-j.j c.args.granted.now c.args.accepted.now c.args.out.now c.loop-j.out c.loop-j.invariant i free.1 accepts,
      c.loop-j.invariant.rest c.loop-j.j (omega arith) ∙ free.2,
    )

pub loop-j-preserved : goal.loop-j-preserved
loop-j-preserved c = AreFed-next c.args.n c.loop-j.j c.args.granted.now c.args.accepted.now c.args.out.now c.loop-j.out c.feed_one.new.out c.loop-j.invariant
    c.feed_one.ensures.whole c.feed_one.ensures.fed c.feed_one.ensures.others
