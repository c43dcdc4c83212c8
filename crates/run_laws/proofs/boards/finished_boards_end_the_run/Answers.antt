use Rattle.run_laws.proofs.Finished.{length-run, taken-all}
use Rattle.run_laws.proofs.boards.finished_boards_end_the_run.Goals as goal

pub returns-clause-length : goal.returns-clause-length
returns-clause-length c plan events good legal driven over = length-run plan events good legal driven over

pub returns-clause-taken : goal.returns-clause-taken
returns-clause-taken c plan events good legal driven over i inside = taken-all plan events good legal driven over i inside
