use Rattle.cell_cutter.proofs.Forms.{cells_join}
use Rattle.cell_cutter.proofs.joined_cells.cells_join.Goals as goal

pub returns : goal.returns
returns c = cells_join
