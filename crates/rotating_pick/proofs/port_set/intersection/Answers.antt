use Rattle.rotating_pick.proofs.Sets.{Has-intersection}
use Rattle.rotating_pick.proofs.port_set.intersection.Goals as goal

pub returns : goal.returns
returns c = Has-intersection c.args.a c.args.b
