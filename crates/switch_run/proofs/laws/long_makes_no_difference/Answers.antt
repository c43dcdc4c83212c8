use Rattle.switch_run.proofs.LongRuns.{same_inputs_when_long, same_when_long}
use Rattle.switch_run.proofs.laws.long_makes_no_difference.Goals as goal

pub returns : goal.returns
returns c = record { inputs = same_inputs_when_long; texts = same_when_long }
