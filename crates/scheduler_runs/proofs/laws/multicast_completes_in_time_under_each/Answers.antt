use Rattle.scheduler_runs.proofs.Completing.{completes-in_time_under_each}
use Rattle.scheduler_runs.proofs.laws.multicast_completes_in_time_under_each.Goals as goal

pub returns : goal.returns
returns c = completes-in_time_under_each
