use Rattle.rotating_pick.proofs.Sets.{Has-difference}
use Rattle.rotating_pick.proofs.port_set.difference.Goals as goal

pub returns : goal.returns
returns c y = Has-difference c.args.a c.args.b y c.ranges.a.fits c.ranges.b.fits
