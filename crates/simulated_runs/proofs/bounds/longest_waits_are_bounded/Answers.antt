use Rattle.simulated_runs.proofs.ScheduledWaits.{waits-firm, waits-islip}
use Rattle.simulated_runs.proofs.bounds.longest_waits_are_bounded.Goals as goal

pub returns-clause-islip : goal.returns-clause-islip
returns-clause-islip c = waits-islip

pub returns-clause-firm : goal.returns-clause-firm
returns-clause-firm c = waits-firm
