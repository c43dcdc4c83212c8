use Rattle.service_bound.proofs.LineRateByRounds.{served_by_rounds_at_line_rate}
use Rattle.service_bound.proofs.laws.served_at_line_rate.Goals as goal

pub returns : goal.returns
returns c = served_by_rounds_at_line_rate
