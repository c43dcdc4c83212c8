use Rattle.run_laws.proofs.Arrivals.{arrivals_first}
use Rattle.run_laws.proofs.ends.arrivals_come_first.Goals as goal

pub returns : goal.returns
returns c scheduler plan slots ends = arrivals_first scheduler plan slots ends
