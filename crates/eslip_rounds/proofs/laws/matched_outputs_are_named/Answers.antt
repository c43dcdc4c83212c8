use Rattle.eslip_rounds.proofs.Unique.{Serves-named}
use Rattle.eslip_rounds.proofs.laws.matched_outputs_are_named.Goals as goal

pub returns : goal.returns
returns c n rounds t rows before a = Serves-named n rounds t rows before a
