use Rattle.std.proofs.Common.{sym}
use Rattle.rotating_pick.proofs.Bits.{Has-lt}
use Rattle.known_queues.proofs.fan_queue_rows.has_several.Goals as goal

pub without-requires : goal.without-requires
without-requires c = Has-lt 64 c.args.outputs c.in-Some.one c.ranges.outputs.fits c.in-Some.ensures.member

pub returns-in-Some-lowest : goal.returns-in-Some-lowest
returns-in-Some-lowest c = λ _.
    let other = c.in-Some-lowest.field-0 in
    let both = (c.without.ensures.members other).0 c.in-Some-lowest.ensures.member in record {
      one = c.in-Some.one;
      other = other;
      differ = λ same. both.0 (sym same);
      has_one = c.in-Some.ensures.member;
      has_other = both.1;
    }
