use Rattle.scheduler_laws.proofs.Counted.{counts_are_fed}
use Rattle.scheduler_laws.proofs.fed_slots.line_rate_is_fed.Goals as goal

pub returns : goal.returns
returns c = counts_are_fed
