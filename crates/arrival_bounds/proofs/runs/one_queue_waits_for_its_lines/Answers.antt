use Rattle.arrival_bounds.proofs.Bounds.{queue_by_all}
use Rattle.arrival_bounds.proofs.runs.one_queue_waits_for_its_lines.Goals as goal

pub returns : goal.returns
returns c = λ scheduler plan i j l cells run. queue_by_all scheduler plan run i j l cells
