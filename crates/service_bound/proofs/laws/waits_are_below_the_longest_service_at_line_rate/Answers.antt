use Rattle.service_bound.proofs.LineRateByRounds.{longest_wait-below_at_line_rate}
use Rattle.service_bound.proofs.laws.waits_are_below_the_longest_service_at_line_rate.Goals as goal

pub returns : goal.returns
returns c = longest_wait-below_at_line_rate
