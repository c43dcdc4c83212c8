use Rattle.journal_check.proofs.LawfulFiles.{file_failure}
use Rattle.journal_check.proofs.laws.files_without_failure_are_lawful.Goals as goal

pub returns : goal.returns
returns c scheduler file scheduling = file_failure scheduler scheduling file
