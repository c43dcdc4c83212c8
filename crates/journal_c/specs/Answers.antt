-- The words that answer a call for the verdict on a journal.
use Rattle.std.specs.Prelude.{◌≡◌, ℕ, List, [], ◌∷◌, Result, Ok, Err}
use Rattle.journal_check.specs.declared.verdict.Reason.{Reason}
use Rattle.journal_check.specs.declared.verdict.Reason.TheVariants.{AfterEnd, More, Keeps, Output, NoEnd}
use Rattle.journal_check.specs.declared.verdict.Verdict.{Verdict}
use Rattle.journal_check.specs.declared.verdict.Verdict.TheVariants.{Yes, No}
use Rattle.journal_check.specs.declared.verdict.JournalFault.{JournalFault}
use Rattle.journal_check.specs.declared.verdict.JournalFault.TheVariants.{Bad, OutOfMemory}
use Rattle.journal_c.specs.declared.words.VerdictWords.{VerdictWords}

-- the number of a reason
abbrev pub reason_word : Reason → ℕ
reason_word AfterEnd = 0
reason_word (More card) = 1
reason_word (Keeps card) = 2
reason_word (Output output) = 3
reason_word NoEnd = 4

-- the card or the output that the reason names, 4294967295 where it names none
abbrev pub port_word : Reason → ℕ
port_word AfterEnd = 4294967295
port_word (More card) = card
port_word (Keeps card) = card
port_word (Output output) = output
port_word NoEnd = 4294967295

-- the words of a verdict: 0 for a lawful journal, with its number of slots and its longest waits, and 1 for one
-- that is not, with the slot that fails and why
abbrev pub verdict_words : Verdict → VerdictWords
verdict_words (Yes slots longest) = record { answer = 0; number = slots; reason = 4294967295; port = 4294967295; longest = longest }
verdict_words (No slot reason) = record { answer = 1; number = slot; reason = reason_word reason; port = port_word reason; longest = 0 ∷ 0 ∷ 0 ∷ 0 ∷ [] }

-- the words of bytes that are no journal file: 2, with the place of the first bad field
abbrev pub bad_words : ℕ → VerdictWords
bad_words at = record { answer = 2; number = at; reason = 4294967295; port = 4294967295; longest = 0 ∷ 0 ∷ 0 ∷ 0 ∷ [] }

-- the words answer so
abbrev pub Answers : Result Verdict JournalFault → VerdictWords → Type 0
Answers (Ok verdict) words = words ≡ verdict_words verdict
Answers (Err (Bad at)) words = words ≡ bad_words at
Answers (Err OutOfMemory) words = ⊥
