use Rattle.simulated_runs.proofs.Conserving.{conserved}
use Rattle.simulated_runs.proofs.laws.cells_are_conserved.Goals as goal

pub returns : goal.returns
returns c job t later = conserved job t later
