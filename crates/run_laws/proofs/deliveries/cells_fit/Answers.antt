use Rattle.run_laws.proofs.Fitting.{cell_fits}
use Rattle.run_laws.proofs.deliveries.cells_fit.Goals as goal

pub returns : goal.returns
returns c scheduler plan j slots received scheduling good to had = cell_fits scheduler scheduling plan good j slots received to had
