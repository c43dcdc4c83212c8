use Rattle.run_laws.proofs.InTime.{completes-in_time}
use Rattle.run_laws.proofs.waits.multicast_heads_complete_in_time.Goals as goal

pub returns : goal.returns
returns c = completes-in_time
