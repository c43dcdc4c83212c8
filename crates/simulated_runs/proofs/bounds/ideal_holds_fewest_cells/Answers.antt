use Rattle.simulated_runs.proofs.LeastWaiting.{cell_slots-least, waiting-least}
use Rattle.simulated_runs.proofs.bounds.ideal_holds_fewest_cells.Goals as goal

pub returns-clause-waiting : goal.returns-clause-waiting
returns-clause-waiting c ideal other t good compared = waiting-least ideal other good t compared

pub returns-clause-cell_slots : goal.returns-clause-cell_slots
returns-clause-cell_slots c ideal other t good compared same = cell_slots-least ideal other good t compared same
