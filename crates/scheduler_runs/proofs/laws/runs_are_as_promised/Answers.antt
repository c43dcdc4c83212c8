use Rattle.scheduler_runs.proofs.Promised.{promises-of}
use Rattle.scheduler_runs.proofs.laws.runs_are_as_promised.Goals as goal

pub returns : goal.returns
returns c plan slots good ends = promises-of plan good slots ends
