use Rattle.service_bound.proofs.LineRateByRounds.{quiet_served_by_rounds}
use Rattle.service_bound.proofs.laws.served_where_quiet.Goals as goal

pub returns : goal.returns
returns c = quiet_served_by_rounds
