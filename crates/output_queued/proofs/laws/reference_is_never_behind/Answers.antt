use Rattle.output_queued.proofs.Runs.{ran-few, ran-behind}
use Rattle.output_queued.proofs.laws.reference_is_never_behind.Goals as goal

pub returns-clause-came : goal.returns-clause-came
returns-clause-came c cards matches j t are run within = ran-few cards matches are run j t within

pub returns-clause-ahead : goal.returns-clause-ahead
returns-clause-ahead c cards matches j t are run within = ran-behind cards matches are run j t within
