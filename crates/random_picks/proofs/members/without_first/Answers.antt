use Rattle.std.proofs.Common.{◌∙◌, drop, ap, refl, sym}
use Rattle.rotating_pick.proofs.Bits.{Has-lt}
use Rattle.random_picks.proofs.Listing.{members-first, members-zero}
use Rattle.random_picks.proofs.members.without_first.Goals as goal

pub without-requires : goal.without-requires
without-requires c = Has-lt 64 c.args.ports c.in-Some.port c.ranges.ports.fits c.in-Some.ensures.member

pub returns-in-Some : goal.returns-in-Some
returns-in-Some c =
    let inside = Has-lt 64 c.args.ports c.in-Some.port c.ranges.ports.fits c.in-Some.ensures.member in
    sym (ap (drop 1) (members-first c.args.ports c.without.result c.in-Some.port inside c.in-Some.ensures.member c.in-Some.ensures.least
    c.without.ensures.members))

pub returns-in-None : goal.returns-in-None
returns-in-None c = members-zero 0 refl ∙ sym (ap (drop 1) (members-zero c.args.ports (c.in-None.ensures.none.0 refl)))
