use Rattle.std.proofs.Common.{arith}
use Rattle.output_queued.proofs.Runs.{ran-behind}
use Rattle.reference_run.specs.RunLines.{run_matches_under}
use Rattle.reference_run.proofs.Matches.{matches-long, run-cards, run-served}
use Rattle.reference_run.proofs.laws.reference_is_never_behind.Goals as goal

pub returns : goal.returns
returns c scheduler plan slots j t scheduling good within =
    ran-behind plan.cards (run_matches_under scheduler plan slots) (run-cards plan good) (run-served scheduler scheduling plan good slots) j t
    (let long = matches-long scheduler plan slots in omega arith)
