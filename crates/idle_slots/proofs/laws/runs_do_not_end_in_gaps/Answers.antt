use Rattle.idle_slots.proofs.LaterArrivals.{goes_on}
use Rattle.idle_slots.proofs.laws.runs_do_not_end_in_gaps.Goals as goal

pub returns : goal.returns
returns c scheduler plan i k s packet inside there later = goes_on scheduler plan i k s packet inside there later
