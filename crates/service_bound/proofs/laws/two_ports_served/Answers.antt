use Rattle.service_bound.proofs.TwoPorts.{two_served_in_time}
use Rattle.service_bound.proofs.laws.two_ports_served.Goals as goal

pub returns : goal.returns
returns c = two_served_in_time
