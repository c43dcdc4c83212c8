use Rattle.rotating_pick.proofs.Sets.{Has-with}
use Rattle.rotating_pick.proofs.port_set.with.Goals as goal

pub returns : goal.returns
returns c y = Has-with c.args.ports c.args.x y c.requires
