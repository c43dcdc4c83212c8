use Rattle.rotating_pick.proofs.Bits.{Has-lt}
use Rattle.service_bound.proofs.level_queues.begin.Goals as goal

pub without-left-requires : goal.without-left-requires
without-left-requires c =
    Has-lt 64 c.args.outputs c.in-Some.output c.ranges.outputs.fits (c.loop-output.invariant.inside c.in-Some.output c.in-Some.ensures.member)
