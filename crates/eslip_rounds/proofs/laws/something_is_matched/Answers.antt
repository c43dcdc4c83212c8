use Rattle.eslip_rounds.proofs.Progress.{some_pair}
use Rattle.eslip_rounds.proofs.laws.something_is_matched.Goals as goal

pub returns : goal.returns
returns c n rounds t rows before a some within at_ports ports slot = some_pair n t rows before within at_ports ports rounds a some slot
