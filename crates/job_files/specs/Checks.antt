-- What checking a journal file by a scheduler comes to, and what it leaves.
use Rattle.std.specs.Prelude.{◌≡◌, ◌≤◌, ℕ, Bool, List, [], ◌∷◌, take, length, map, Option, Some, Result, Ok, Err, IfSome, option_map, codes, decimal}
use Rattle.eslip_rounds.specs.Schedulers.{Scheduler}
use Rattle.outside.specs.Contents.{Contents, append_out}
use Rattle.outside.specs.Faults.{Place, ReadOf, ToOut, Rose, of_none, of_reads, of_writes}
use Rattle.outside.specs.WholeFiles.{IsLongerThan}
use Rattle.slot_report.specs.Lines.{lines_text}
use Rattle.journal_check.specs.declared.limits.TheConstants.{MAX_JOURNAL_BYTES}
use Rattle.journal_check.specs.declared.verdict.Verdict.{Verdict}
use Rattle.journal_check.specs.declared.verdict.Verdict.TheVariants as verdict
use Rattle.journal_check.specs.declared.verdict.JournalFault.{JournalFault}
use Rattle.journal_check.specs.declared.verdict.JournalFault.TheVariants as fault
use Rattle.journal_check.specs.Verdicts.{answer_under}
use Rattle.job_files.specs.declared.check_ending.CheckEnding.{CheckEnding}
use Rattle.job_files.specs.declared.check_ending.CheckEnding.TheVariants.{Yes, No, Bad, TooLong, ReadFault, OutOfMemory, OutFault}

-- the file is there, and has more bytes than a journal file may have
abbrev pub IsTooLong : Contents → List ℕ → Type 0
IsTooLong c name = IsLongerThan MAX_JOURNAL_BYTES c name

-- the file is there, is not too long, and its bytes have this answer where matches are those of the scheduler
abbrev pub HasAnswer : Scheduler → List ℕ → Result Verdict JournalFault → Contents → Type 0
HasAnswer scheduler name answer c = (bytes : List ℕ) × (c.file name ≡ Some bytes) × (length bytes ≤ MAX_JOURNAL_BYTES)
    × (answer_under scheduler bytes ≡ answer)

-- the lines of yes: how many slots, and the longest waits of each level
abbrev pub yes_text : ℕ → List ℕ → List ℕ
yes_text slots longest = lines_text ((codes "yes" ∷ []) ∷ (codes "slots" ∷ decimal slots ∷ []) ∷ (codes "longest" ∷ map decimal longest) ∷ [])

-- Bytes of an allowed length have this answer where matches are those of the scheduler; where it is known what files hold,
-- they are those of the file.
pub record IsAnswered (scheduler : Scheduler) (name : List ℕ) (old : Option Contents) (answer : Result Verdict JournalFault) : Type 0 where
  pub bytes : List ℕ
  pub fits : length bytes ≤ MAX_JOURNAL_BYTES
  pub answered : answer_under scheduler bytes ≡ answer
  pub known : IfSome old (λ c. c.file name ≡ Some bytes)

-- The file is lawful under the scheduler, with this text for yes.
pub record IsYes (scheduler : Scheduler) (name : List ℕ) (old : Option Contents) (text : List ℕ) : Type 0 where
  pub slots : ℕ
  pub longest : List ℕ
  pub answer : IsAnswered scheduler name old (Ok (verdict.Yes slots longest))
  pub text_is : text ≡ yes_text slots longest

-- what each ending means, and what it leaves
abbrev pub MeansCheck : Scheduler → List ℕ → Option Contents → Option Contents → (Place → ℕ) → (Place → ℕ) → CheckEnding → Type 0
MeansCheck scheduler name old new was now Yes = (text : List ℕ) × IsYes scheduler name old text × (new ≡ option_map (append_out text) old)
MeansCheck scheduler name old new was now (No slot reason) = IsAnswered scheduler name old (Ok (verdict.No slot reason)) × (new ≡ old)
MeansCheck scheduler name old new was now (Bad at) = IsAnswered scheduler name old (Err (fault.Bad at)) × (new ≡ old)
MeansCheck scheduler name old new was now TooLong = IfSome old (λ c. IsTooLong c name) × (new ≡ old)
MeansCheck scheduler name old new was now ReadFault = Rose (was (ReadOf name)) (now (ReadOf name)) × (new ≡ old)
MeansCheck scheduler name old new was now OutOfMemory = new ≡ old
MeansCheck scheduler name old new was now OutFault = (text : List ℕ) × (given : ℕ) × IsYes scheduler name old text × Rose (was ToOut) (now ToOut)
    × (new ≡ option_map (append_out (take given text)) old)

-- of which calls one was refused where a check ends so
abbrev pub refused_by : CheckEnding → Place → Bool
refused_by Yes = of_none
refused_by (No slot reason) = of_none
refused_by (Bad at) = of_none
refused_by TooLong = of_none
refused_by ReadFault = of_reads
refused_by OutOfMemory = of_none
refused_by OutFault = of_writes
