use Rattle.run_laws.proofs.Driven.{journal-run, takings-run}
use Rattle.run_laws.proofs.boards.driven_boards_make_the_run.Goals as goal

pub returns-clause-journal : goal.returns-clause-journal
returns-clause-journal c plan events good legal driven = journal-run plan events legal driven

pub returns-clause-takings : goal.returns-clause-takings
returns-clause-takings c plan events good legal driven i inside = takings-run plan events legal driven i inside
