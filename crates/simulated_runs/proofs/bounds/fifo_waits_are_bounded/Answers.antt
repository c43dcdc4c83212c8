use Rattle.simulated_runs.proofs.FifoWaits.{waits-fifo}
use Rattle.simulated_runs.proofs.bounds.fifo_waits_are_bounded.Goals as goal

pub returns : goal.returns
returns c = waits-fifo
