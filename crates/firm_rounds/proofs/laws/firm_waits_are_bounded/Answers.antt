use Rattle.firm_rounds.proofs.InTime.{firm_longest_wait}
use Rattle.firm_rounds.proofs.laws.firm_waits_are_bounded.Goals as goal

pub returns : goal.returns
returns c = firm_longest_wait
