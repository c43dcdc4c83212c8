use Rattle.journal_check.proofs.FilesAgain.{journal_again}
use Rattle.journal_check.proofs.FilesSpelled.{told_is_spelled}
use Rattle.journal_check.proofs.ReadFiles.{told_is_file}
use Rattle.journal_check.proofs.laws.files_are_their_texts.Goals as goal

pub returns-clause-read : goal.returns-clause-read
returns-clause-read c = journal_again

pub returns-clause-good : goal.returns-clause-good
returns-clause-good c = told_is_file

pub returns-clause-texts : goal.returns-clause-texts
returns-clause-texts c = told_is_spelled
