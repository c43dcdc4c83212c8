use Rattle.rrm_rounds.proofs.Starved.{starves}
use Rattle.rrm_rounds.proofs.laws.rrm_starves.Goals as goal

pub returns : goal.returns
returns c = starves
