-- proofs/laws/finished_journals_are_lawful/Answers.antt
use Rattle.std.proofs.Common.{◌≡◌, Ok, sym, subst}
use Rattle.eslip_rounds.specs.Decisions.{decision_of}
use Rattle.eslip_rounds.proofs.Scheduling.{IsScheduler-decision_of}
use Rattle.board_state.specs.Boards.{JournalValue, board_journal}
use Rattle.journal_check.specs.Texts.{HaveLevels, file_of, file_text}
use Rattle.journal_check.specs.Verdicts.{yes_on, answer_to}
use Rattle.journal_check.proofs.LawfulFiles.{lawful_answer}
use Rattle.journal_check.proofs.JournalsLawful.{journal_lawful, journal_is_file}
use Rattle.journal_check.proofs.laws.finished_journals_are_lawful.Goals as goal

pub returns : goal.returns
returns c s events setup legal finished is =
    let board : JournalValue = board_journal (record { setup = s; events = events }) in
    let four : HaveLevels (file_of board) = subst (λ (j : JournalValue). HaveLevels (file_of j)) is c.journal_len-len.ensures.levels in
    subst (λ (j : JournalValue). answer_to (file_text (file_of j)) ≡ Ok (yes_on (file_of j))) (sym is)
    (lawful_answer decision_of IsScheduler-decision_of (file_of board) (journal_is_file s events setup legal finished four)
    (journal_lawful s events setup legal finished))
