use Rattle.frame_fields.proofs.Destinations.{exact}
use Rattle.frame_fields.proofs.laws.destination_is_exact.Goals as goal

pub returns : goal.returns
returns c link frame address = exact link frame address
