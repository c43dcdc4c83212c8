use Rattle.eslip_rounds.specs.Decisions.{decision_of}
use Rattle.eslip_rounds.proofs.Scheduling.{IsScheduler-decision_of}
use Rattle.board_state.specs.Boards.{board_journal}
use Rattle.journal_check.specs.Texts.{file_of}
use Rattle.journal_check.proofs.LawfulFiles.{lawful_answer}
use Rattle.journal_check.proofs.JournalsLawful.{journal_lawful, journal_is_file}
use Rattle.journal_check.proofs.laws.journals_are_lawful.Goals as goal

pub returns-clause-file : goal.returns-clause-file
returns-clause-file c s events setup legal finished four = journal_is_file s events setup legal finished four

pub returns-clause-lawful : goal.returns-clause-lawful
returns-clause-lawful c s events setup legal finished = journal_lawful s events setup legal finished

pub returns-clause-answer : goal.returns-clause-answer
returns-clause-answer c s events setup legal finished four =
    lawful_answer decision_of IsScheduler-decision_of (file_of (board_journal (record { setup = s; events = events })))
    (journal_is_file s events setup legal finished four) (journal_lawful s events setup legal finished)
