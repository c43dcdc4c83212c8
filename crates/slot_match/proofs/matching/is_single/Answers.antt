use Rattle.rotating_pick.proofs.Bits.{Has-lt}
use Rattle.slot_match.proofs.matching.is_single.Goals as goal

pub without-requires : goal.without-requires
without-requires c = Has-lt 64 c.args.ports c.in-Some.j c.ranges.ports.fits c.in-Some.ensures.member
