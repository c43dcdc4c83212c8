use Rattle.scheduler_runs.proofs.Completing.{completes-under_each}
use Rattle.scheduler_runs.proofs.laws.multicast_completes_under_each.Goals as goal

pub returns : goal.returns
returns c name plan slots good = completes-under_each name plan slots good
