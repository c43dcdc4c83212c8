use Rattle.run_laws.proofs.Counted.{counted-once}
use Rattle.run_laws.proofs.numbers.packets_are_counted_once.Goals as goal

pub returns : goal.returns
returns c scheduler plan slots good ends = counted-once scheduler plan slots good ends
