use Rattle.reference_run.specs.RunLines.{run_matches_under}
use Rattle.reference_run.proofs.Told.{line-told}
use Rattle.reference_run.proofs.laws.lines_are_those_of_the_run.Goals as goal

pub returns : goal.returns
returns c scheduler plan reference slots j good is =
    line-told plan good reference (run_matches_under scheduler plan slots) is (run_matches_under scheduler plan slots) j
