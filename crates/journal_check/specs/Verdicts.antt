-- The verdict on a file, and the answer to its bytes.
-- What ends in `under` is of any scheduler; the plain names are of the scheduler of the board.
use Rattle.std.specs.Prelude.{ℕ, List, length, map, Option, None, Some, Result, Ok, Err}
use Rattle.std.specs.List.{range_with_len}
use Rattle.rotating_pick.specs.declared.limits.TheConstants.{LEVELS}
use Rattle.eslip_rounds.specs.Schedulers.{Scheduler}
use Rattle.eslip_rounds.specs.Decisions.{decision_of}
use Rattle.service_bound.specs.Waits.{NotedSlot, longest_wait}
use Rattle.journal_check.specs.declared.verdict.Verdict.{Verdict}
use Rattle.journal_check.specs.declared.verdict.Verdict.TheVariants.{Yes, No}
use Rattle.journal_check.specs.declared.verdict.JournalFault.{JournalFault}
use Rattle.journal_check.specs.declared.verdict.JournalFault.TheVariants.{Bad}
use Rattle.journal_check.specs.Files.{FileSlot, JournalFile, rows_of, journal_in}
use Rattle.journal_check.specs.declared.verdict.Failure.{Failure}
use Rattle.journal_check.specs.Lawful.{first_failure_under}

-- what is noted of a slot for the waits
abbrev pub noted_of : FileSlot → NotedSlot
noted_of slot = record { rows = rows_of slot; matched = slot.matched }

-- the longest wait of each level
unfoldable pub longest_waits : JournalFile → List ℕ
longest_waits file = map (λ level. longest_wait file.ports level (map noted_of file.slots)) (range_with_len 0 LEVELS)

-- yes, with the number of slots and their longest waits
abbrev pub yes_on : JournalFile → Verdict
yes_on file = Yes (length file.slots) (longest_waits file)

-- the verdict on a file with this first failure, if it has one
abbrev pub verdict_by : JournalFile → Option Failure → Verdict
verdict_by file None = yes_on file
verdict_by file (Some failure) = No failure.slot failure.reason

-- the verdict on a file: yes, or where it fails first and why
abbrev pub verdict_under : Scheduler → JournalFile → Verdict
verdict_under scheduler file = verdict_by file (first_failure_under scheduler file)

-- the answer to what the bytes tell
abbrev pub answer_by : Scheduler → Result JournalFile ℕ → Result Verdict JournalFault
answer_by scheduler (Ok file) = Ok (verdict_under scheduler file)
answer_by scheduler (Err at) = Err (Bad at)

-- the answer to the bytes of a file
unfoldable pub answer_under : Scheduler → List ℕ → Result Verdict JournalFault
answer_under scheduler bytes = answer_by scheduler (journal_in bytes)

abbrev pub answer_to : List ℕ → Result Verdict JournalFault
answer_to = answer_under decision_of
