use Rattle.run_laws.proofs.RunWindows.{served-in-window}
use Rattle.run_laws.proofs.waits.waiting_queues_are_served.Goals as goal

pub returns : goal.returns
returns c plan slots good = served-in-window plan good slots
