use Rattle.run_laws.proofs.InTime.{serves-in_time}
use Rattle.run_laws.proofs.waits.waiting_queues_are_served_in_time.Goals as goal

pub returns : goal.returns
returns c = serves-in_time
