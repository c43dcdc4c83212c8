use Rattle.service_bound.proofs.ServedAtLineRate.{served_at_line_rate}
use Rattle.service_bound.proofs.laws.unicast_served_at_line_rate.Goals as goal

pub returns : goal.returns
returns c = served_at_line_rate
