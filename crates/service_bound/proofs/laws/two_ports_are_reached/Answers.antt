use Rattle.service_bound.proofs.AnyQueue.{two_reached}
use Rattle.service_bound.proofs.laws.two_ports_are_reached.Goals as goal

pub returns : goal.returns
returns c = two_reached
