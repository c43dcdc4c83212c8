use Rattle.journal_check.proofs.LawfulFiles.{lawful_answer}
use Rattle.run_journals.specs.RunFiles.{run_file_under}
use Rattle.run_journals.proofs.RunLawful.{run_lawful, run_is_file, yes_told}
use Rattle.run_journals.proofs.laws.journals_of_runs_are_lawful.Goals as goal

pub returns-clause-file : goal.returns-clause-file
returns-clause-file c scheduler plan slots scheduling good burst ends = run_is_file scheduler scheduling plan good slots ends burst

pub returns-clause-lawful : goal.returns-clause-lawful
returns-clause-lawful c scheduler plan slots scheduling good ends = run_lawful scheduler scheduling plan good slots ends

pub returns-clause-answer : goal.returns-clause-answer
returns-clause-answer c scheduler plan slots scheduling good burst ends =
    lawful_answer scheduler scheduling (run_file_under scheduler plan slots) (run_is_file scheduler scheduling plan good slots ends burst)
    (run_lawful scheduler scheduling plan good slots ends)

pub returns-clause-numbers : goal.returns-clause-numbers
returns-clause-numbers c scheduler plan slots = yes_told scheduler plan slots
