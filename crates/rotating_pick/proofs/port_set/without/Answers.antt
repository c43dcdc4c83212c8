use Rattle.rotating_pick.proofs.Sets.{Has-without, without-lt}
use Rattle.rotating_pick.proofs.port_set.without.Goals as goal

pub returns-clause-members : goal.returns-clause-members
returns-clause-members c y = Has-without c.args.ports c.args.x y c.ranges.ports.fits c.requires

pub returns-clause-fewer : goal.returns-clause-fewer
returns-clause-fewer c has = without-lt c.args.ports c.args.x c.ranges.ports.fits c.requires has
