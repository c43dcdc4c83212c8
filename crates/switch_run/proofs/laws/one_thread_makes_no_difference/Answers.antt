use Rattle.switch_run.proofs.OtherWorkers.{same_alone}
use Rattle.switch_run.proofs.laws.one_thread_makes_no_difference.Goals as goal

pub returns : goal.returns
returns c = same_alone
