use Rattle.service_bound.proofs.HeadsComplete.{completes_in_time}
use Rattle.service_bound.proofs.laws.multicast_completes.Goals as goal

pub returns : goal.returns
returns c = completes_in_time
