use Rattle.descriptor_runs.proofs.NamesOf.{names-none}
use Rattle.descriptor_runs.proofs.cell_names.CellNames.new.Goals as goal

pub returns : goal.returns
returns c = names-none c.no_names.result
