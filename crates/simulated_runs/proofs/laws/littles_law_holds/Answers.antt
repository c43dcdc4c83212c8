use Rattle.simulated_runs.proofs.Ageing.{little-holds}
use Rattle.simulated_runs.proofs.laws.littles_law_holds.Goals as goal

pub returns : goal.returns
returns c job t later = little-holds job t later
