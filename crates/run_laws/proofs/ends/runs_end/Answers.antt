use Rattle.run_laws.proofs.RunEnds.{run_ends, run_bound}
use Rattle.run_laws.proofs.ends.runs_end.Goals as goal

pub returns-clause-ends : goal.returns-clause-ends
returns-clause-ends c scheduler plan scheduling good = run_ends scheduler scheduling plan good

pub returns-clause-bound : goal.returns-clause-bound
returns-clause-bound c scheduler plan slots scheduling good ends = run_bound scheduler scheduling plan good slots ends
