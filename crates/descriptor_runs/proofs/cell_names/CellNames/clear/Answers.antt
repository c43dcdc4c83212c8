use Rattle.descriptor_runs.proofs.NamesOf.{names-none}
use Rattle.descriptor_runs.proofs.cell_names.CellNames.clear.Goals as goal

pub returns : goal.returns
returns c = names-none c.self.inside.names
