-- What is said of a check from a later state on holds from an earlier one of which the same was seen.
use Rattle.std.proofs.Common.{◌≡◌, ◌≤◌, ℕ, List, Option, None, Some, length, take, refl, subst, sym}
use Rattle.std.specs.Prelude.{Result, IfSome, option_map}
use Rattle.eslip_rounds.specs.Schedulers.{Scheduler}
use Rattle.outside.specs.Contents.{Contents, Stays, append_out, held}
use Rattle.outside.specs.Faults.{Place, ReadOf, ToOut}
use Rattle.outside.proofs.Counting.{CallsAmong, Rose-wider}
use Rattle.outside.proofs.Staying.{held-Stays}
use Rattle.journal_check.specs.declared.limits.TheConstants.{MAX_JOURNAL_BYTES}
use Rattle.journal_check.specs.declared.verdict.Verdict.{Verdict}
use Rattle.journal_check.specs.declared.verdict.JournalFault.{JournalFault}
use Rattle.journal_check.specs.Verdicts.{answer_under}
use Rattle.job_files.specs.declared.check_ending.CheckEnding.{CheckEnding}
use Rattle.job_files.specs.declared.check_ending.CheckEnding.TheVariants.{Yes, No, Bad, TooLong, ReadFault, OutOfMemory, OutFault}
use Rattle.job_files.specs.Checks.{IsAnswered, MeansCheck}

-- the bytes that were read have the answer
pub is_answered : (scheduler : Scheduler) (name bytes : List ℕ) (answer : Result Verdict JournalFault) (old : Option Contents)
    → IfSome old (λ c. c.file name ≡ Some bytes) → length bytes ≤ MAX_JOURNAL_BYTES → answer_under scheduler bytes ≡ answer
    → IsAnswered scheduler name old answer
is_answered scheduler name bytes answer old there fits is = record { bytes = bytes; fits = fits; answered = is; known = there }

-- how a check ended in some of the calls is how it ended in all of them
pub check_wider : (scheduler : Scheduler) (name : List ℕ) (old new : Option Contents) (was now : Place → ℕ) (some : CallsAmong was now) (ending : CheckEnding)
    → MeansCheck scheduler name old new some.from some.to ending → MeansCheck scheduler name old new was now ending
check_wider scheduler name old new was now some Yes means = means
check_wider scheduler name old new was now some (No slot reason) means = means
check_wider scheduler name old new was now some (Bad at) means = means
check_wider scheduler name old new was now some TooLong means = means
check_wider scheduler name old new was now some ReadFault (rose, same) = (Rose-wider was now some (ReadOf name) rose, same)
check_wider scheduler name old new was now some OutOfMemory means = means
check_wider scheduler name old new was now some OutFault (text, given, lawful, rose, left) =
    (text, given, lawful, Rose-wider was now some ToOut rose, left)

-- A check after calls by which what was seen before is seen still

-- what was seen before, and is still after a change of it, is what was changed
held_mapped : (old mid new : Option Contents) (change : Contents → Contents) → Stays old mid → new ≡ option_map change mid → held old new ≡ mid
held_mapped old None new change stays is = rw is refl
held_mapped old (Some c) new change stays is = rw is stays

held_same : (old mid new : Option Contents) → Stays old mid → new ≡ mid → held old new ≡ mid
held_same old mid new stays is = rw is (held-Stays old mid stays)

module _ (scheduler : Scheduler) (name : List ℕ) (old mid : Option Contents) (was now : Place → ℕ) (stays : Stays old mid) where
  from_held : (new : Option Contents) (ending : CheckEnding) → held old new ≡ mid → MeansCheck scheduler name mid new was now ending
      → MeansCheck scheduler name (held old new) new was now ending
  from_held new ending same means = subst (λ (o : Option Contents). MeansCheck scheduler name o new was now ending) (sym same) means

  pub held_check : (ending : CheckEnding) (new : Option Contents) → MeansCheck scheduler name mid new was now ending
      → MeansCheck scheduler name (held old new) new was now ending
  held_check Yes new means = from_held new Yes (held_mapped old mid new (append_out means.0) stays means.2) means
  held_check (No slot reason) new means = from_held new (No slot reason) (held_same old mid new stays means.1) means
  held_check (Bad at) new means = from_held new (Bad at) (held_same old mid new stays means.1) means
  held_check TooLong new means = from_held new TooLong (held_same old mid new stays means.1) means
  held_check ReadFault new means = from_held new ReadFault (held_same old mid new stays means.1) means
  held_check OutOfMemory new means = from_held new OutOfMemory (held_same old mid new stays means) means
  held_check OutFault new means = from_held new OutFault (held_mapped old mid new (append_out (take means.1 means.0)) stays means.4) means
