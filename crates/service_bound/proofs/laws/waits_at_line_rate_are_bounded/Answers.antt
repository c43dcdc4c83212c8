use Rattle.service_bound.proofs.ServedAtLineRate.{longest_wait-at_line_rate}
use Rattle.service_bound.proofs.laws.waits_at_line_rate_are_bounded.Goals as goal

pub returns : goal.returns
returns c = longest_wait-at_line_rate
