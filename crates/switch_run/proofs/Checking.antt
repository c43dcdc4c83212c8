-- When each end of a check comes.
use Rattle.std.proofs.Common.{◌≡◌, ℕ, List, length, Option, Some, inl, inr, refl, sym, ◌∙◌, ap, subst, arith}
use Rattle.std.specs.Prelude.{◌⊎◌, Ok, Err, Result}
use Rattle.outside.specs.Contents.{Contents}
use Rattle.outside.specs.Faults.{ToOut, Rose}
use Rattle.journal_check.specs.Verdicts.{answer_under}
use Rattle.journal_check.specs.declared.verdict.Verdict.{Verdict}
use Rattle.journal_check.specs.declared.verdict.Verdict.TheVariants as verdict
use Rattle.journal_check.specs.declared.verdict.JournalFault.{JournalFault}
use Rattle.journal_check.specs.declared.verdict.JournalFault.TheVariants as journal_fault
use Rattle.journal_check.specs.declared.verdict.Reason.{Reason}
use Rattle.job_files.specs.Checks.{HasAnswer, IsAnswered, IsTooLong, MeansCheck}
use Rattle.job_files.specs.declared.check_ending.CheckEnding.{CheckEnding}
use Rattle.job_files.specs.declared.check_ending.CheckEnding.TheVariants as check_ending
use Rattle.eslip_rounds.specs.Schedulers.{Scheduler}
use Rattle.named_schedulers.specs.Named.{decision_named}
use Rattle.switch_words.specs.Reading.{JobWords, check, CheckWords}
use Rattle.switch_run.specs.Causes.{Answers, AnswersUnlessOut, CheckIsExact, IsCheckable}
use Rattle.switch_run.specs.Endings.{Command, IsMade, IsStopped, Stops}
use Rattle.job_files.specs.ErrorLines.{line_of}
use Rattle.job_files.specs.LineParts.{GivesLine}
use Rattle.job_files.specs.Statuses.{check_status}
use Rattle.job_files.specs.declared.ending.Ending.{Ending}
use Rattle.job_files.specs.declared.ending.Ending.TheVariants.{Done, Usage, ReadFault, TooLong, Refused, JournalTooLong, PacketsTooLong, OutOfMemory}
use Rattle.job_files.specs.declared.ending.Ending.TheVariants.{WriteFault, Checked}
use Rattle.switch_run.proofs.Answering.{no_job, no_reads, same_job, stops_here}

-- a check of status 0 ends with yes
pub check_is_yes : (e : CheckEnding) → check_status e ≡ 0 → e ≡ check_ending.Yes
check_is_yes check_ending.Yes same = refl
check_is_yes _ same = absurd (omega (arith, same))

-- ---- the file has one answer

-- what is answered where the contents are known is the answer of the file
of_file : {scheduler : Scheduler} {name : List ℕ} {c : Contents} {answer : Result Verdict JournalFault} → IsAnswered scheduler name (Some c) answer
    → HasAnswer scheduler name answer c
of_file is = (is.bytes, is.known, is.fits, is.answered)

answers_once : (scheduler : Scheduler) (name : List ℕ) (c : Contents) (a b : Result Verdict JournalFault) → HasAnswer scheduler name a c
    → HasAnswer scheduler name b c → a ≡ b
answers_once scheduler name c a b p q = let there = p.1 in let other = q.1 in let same : p.0 ≡ q.0 = cc in sym p.3 ∙ ap (answer_under scheduler) same ∙ q.3

long_has_none : (scheduler : Scheduler) (name : List ℕ) (c : Contents) (a : Result Verdict JournalFault) → HasAnswer scheduler name a c
    → IsTooLong c name → ⊥
long_has_none scheduler name c a p q = let there = p.1 in let other = q.1 in let same : p.0 ≡ q.0 = cc in let n = ap length same in omega (arith, n, p.2, q.2)

yes_is_no_bad : (slots at : ℕ) (longest : List ℕ) → ◌≡◌ {A = Result Verdict JournalFault} (Ok (verdict.Yes slots longest)) (Err (journal_fault.Bad at)) → ⊥
yes_is_no_bad slots at longest h = cc

no_is_no_bad : (slot at : ℕ) (reason : Reason) → ◌≡◌ {A = Result Verdict JournalFault} (Ok (verdict.No slot reason)) (Err (journal_fault.Bad at)) → ⊥
no_is_no_bad slot at reason h = cc

yes_is_no_no : (slots slot : ℕ) (longest : List ℕ) (reason : Reason)
    → ◌≡◌ {A = Result Verdict JournalFault} (Ok (verdict.Yes slots longest)) (Ok (verdict.No slot reason)) → ⊥
yes_is_no_no slots slot longest reason h = cc

bad_once : (a b : ℕ) → ◌≡◌ {A = Result Verdict JournalFault} (Err (journal_fault.Bad a)) (Err (journal_fault.Bad b)) → a ≡ b
bad_once a b h = cc

no_once : (a b : ℕ) (p q : Reason) → ◌≡◌ {A = Result Verdict JournalFault} (Ok (verdict.No a p)) (Ok (verdict.No b q)) → (a ≡ b) × (p ≡ q)
no_once a b p q h = (cc, cc)

-- ---- the command is a check

module _ (c : Command) (words : CheckWords) (contents : Contents) (is : IsCheckable c words contents) where
  abbrev by : Scheduler
  by = decision_named words.scheduler

  same_words : (other : CheckWords) → check words ≡ check other → other ≡ words
  same_words other same = cc

  here : (ending : Ending) → (s : IsStopped c ending) → Stops (check words) (Some contents) c.was c.now s.seen ending
  here ending s = stops_here c (check words) contents ending is.words is.seen s

  -- how the check of this file ended
  means : (e : CheckEnding) → (s : IsStopped c (Checked e)) → MeansCheck by words.file (Some contents) s.seen c.was c.now e
  means e s = let stops = here (Checked e) s in
      subst (λ (w : CheckWords). MeansCheck (decision_named w.scheduler) w.file (Some contents) s.seen c.was c.now e)
      (same_words stops.words stops.is_check) stops.means

  -- memory ran out in the check
  out : (status : ℕ) → Answers c status (Checked check_ending.OutOfMemory) → Answers c status OutOfMemory
  out status a =
      let s = a.1 in
      let seen : s.seen ≡ c.old = means check_ending.OutOfMemory s ∙ sym is.seen in
      let line = subst (λ (job : JobWords). GivesLine (line_of job (Checked check_ending.OutOfMemory)) s.seen c.new _ _)
      (same_job c (check words) s.job is.words s.words) s.line in
      (a.0, subst (λ (o : Option Contents). GivesLine _ o c.new _ _) seen line)

  -- a check ends as one, or memory ran out
  abbrev pub EndsAs : Ending → Type 0
  EndsAs ending = ((e : CheckEnding) × (ending ≡ Checked e)) ⊎ (ending ≡ OutOfMemory)

  ends : (status : ℕ) (ending : Ending) → Answers c status ending → EndsAs ending
  ends status Done a =
      let made = subst (λ (job : JobWords). IsMade job c.old a.1.2.texts) (same_job c (check words) a.1.0 is.words a.1.1) a.1.2.made in
      absurd made.inputs
  ends status Usage a = absurd (no_job c (check words) is.words a.1.0)
  ends status (ReadFault input) a = let stops = here (ReadFault input) a.1 in absurd (no_reads (check words) words stops.0.words refl stops.0.reads)
  ends status (TooLong input) a = let stops = here (TooLong input) a.1 in absurd (no_reads (check words) words stops.0.words refl stops.0.reads)
  ends status (Refused fault) a = let stops = here (Refused fault) a.1 in absurd stops.0.inputs
  ends status (JournalTooLong size) a = let stops = here (JournalTooLong size) a.1 in absurd stops.0.inputs
  ends status (PacketsTooLong size) a = let stops = here (PacketsTooLong size) a.1 in absurd stops.0.inputs
  ends status OutOfMemory a = inr refl
  ends status (WriteFault written) a = let stops = here (WriteFault written) a.1 in absurd stops.made.inputs
  ends status (Checked e) a = inl (e, refl)

  -- so what holds of each end of a check holds of the command
  of_ends : (status : ℕ) (ending wanted : Ending) → Answers c status ending
      → ((e : CheckEnding) → Answers c status (Checked e) → AnswersUnlessOut c status wanted) → AnswersUnlessOut c status wanted
  of_ends status ending wanted a each = elim (ends status ending a) [
    | inl checked ↦ each checked.0 (subst (λ (n : Ending). Answers c status n) checked.1 a)
    | inr memory ↦ inr (subst (λ (n : Ending). Answers c status n) memory a)
  ]

  too_long_end : (status : ℕ) → IsTooLong contents words.file → (e : CheckEnding) → Answers c status (Checked e)
      → AnswersUnlessOut c status (Checked check_ending.TooLong)
  too_long_end status long check_ending.Yes a = let m = means check_ending.Yes a.1 in absurd (long_has_none by words.file contents _ (of_file m.1.answer) long)
  too_long_end status long (check_ending.No slot reason) a = let m = means (check_ending.No slot reason) a.1 in
      absurd (long_has_none by words.file contents _ (of_file m.0) long)
  too_long_end status long (check_ending.Bad at) a = let m = means (check_ending.Bad at) a.1 in absurd (long_has_none by words.file contents _
      (of_file m.0) long)
  too_long_end status long check_ending.TooLong a = inl a
  too_long_end status long check_ending.ReadFault a = let m = means check_ending.ReadFault a.1 in absurd (is.reads m.0)
  too_long_end status long check_ending.OutOfMemory a = inr (out status a)
  too_long_end status long check_ending.OutFault a = let m = means check_ending.OutFault a.1 in absurd (long_has_none by words.file contents _
      (of_file m.2.answer) long)

  bad_end : (status at : ℕ) → HasAnswer by words.file (Err (journal_fault.Bad at)) contents → (e : CheckEnding) → Answers c status (Checked e)
      → AnswersUnlessOut c status (Checked (check_ending.Bad at))
  bad_end status at has check_ending.Yes a = let m = means check_ending.Yes a.1 in
      absurd (yes_is_no_bad _ _ _ (answers_once by words.file contents _ _ (of_file m.1.answer) has))
  bad_end status at has (check_ending.No slot reason) a = let m = means (check_ending.No slot reason) a.1 in
      absurd (no_is_no_bad _ _ _ (answers_once by words.file contents _ _ (of_file m.0) has))
  bad_end status at has (check_ending.Bad found) a =
      let m = means (check_ending.Bad found) a.1 in
      inl (subst (λ (n : ℕ). Answers c status (Checked (check_ending.Bad n))) (bad_once found at (answers_once by words.file contents _ _ (of_file m.0) has)) a)
  bad_end status at has check_ending.TooLong a = let m = means check_ending.TooLong a.1 in absurd (long_has_none by words.file contents _ has m.0)
  bad_end status at has check_ending.ReadFault a = let m = means check_ending.ReadFault a.1 in absurd (is.reads m.0)
  bad_end status at has check_ending.OutOfMemory a = inr (out status a)
  bad_end status at has check_ending.OutFault a = let m = means check_ending.OutFault a.1 in
      absurd (yes_is_no_bad _ _ _ (answers_once by words.file contents _ _ (of_file m.2.answer) has))

  no_end : (status slot : ℕ) (reason : Reason) → HasAnswer by words.file (Ok (verdict.No slot reason)) contents
      → (e : CheckEnding) → Answers c status (Checked e)
      → AnswersUnlessOut c status (Checked (check_ending.No slot reason))
  no_end status slot reason has check_ending.Yes a = let m = means check_ending.Yes a.1 in
      absurd (yes_is_no_no _ _ _ _ (answers_once by words.file contents _ _ (of_file m.1.answer) has))
  no_end status slot reason has (check_ending.No other why) a =
      let m = means (check_ending.No other why) a.1 in
      let same = no_once other slot why reason (answers_once by words.file contents _ _ (of_file m.0) has) in
      inl (subst (λ (r : Reason). Answers c status (Checked (check_ending.No slot r))) same.1
      (subst (λ (n : ℕ). Answers c status (Checked (check_ending.No n why))) same.0 a))
  no_end status slot reason has (check_ending.Bad at) a = let m = means (check_ending.Bad at) a.1 in
      absurd (no_is_no_bad _ _ _ (answers_once by words.file contents _ _ has (of_file m.0)))
  no_end status slot reason has check_ending.TooLong a = let m = means check_ending.TooLong a.1 in absurd (long_has_none by words.file contents _ has m.0)
  no_end status slot reason has check_ending.ReadFault a = let m = means check_ending.ReadFault a.1 in absurd (is.reads m.0)
  no_end status slot reason has check_ending.OutOfMemory a = inr (out status a)
  no_end status slot reason has check_ending.OutFault a = let m = means check_ending.OutFault a.1 in
      absurd (yes_is_no_no _ _ _ _ (answers_once by words.file contents _ _ (of_file m.2.answer) has))

  yes_end : (status slots : ℕ) (longest : List ℕ) → HasAnswer by words.file (Ok (verdict.Yes slots longest)) contents → (Rose (c.was ToOut) (c.now ToOut) → ⊥)
      → (e : CheckEnding) → Answers c status (Checked e)
      → AnswersUnlessOut c status (Checked check_ending.Yes)
  yes_end status slots longest has free check_ending.Yes a = inl a
  yes_end status slots longest has free (check_ending.No slot reason) a = let m = means (check_ending.No slot reason) a.1 in
      absurd (yes_is_no_no _ _ _ _ (answers_once by words.file contents _ _ has (of_file m.0)))
  yes_end status slots longest has free (check_ending.Bad at) a = let m = means (check_ending.Bad at) a.1 in
      absurd (yes_is_no_bad _ _ _ (answers_once by words.file contents _ _ has (of_file m.0)))
  yes_end status slots longest has free check_ending.TooLong a = let m = means check_ending.TooLong a.1 in
      absurd (long_has_none by words.file contents _ has m.0)
  yes_end status slots longest has free check_ending.ReadFault a = let m = means check_ending.ReadFault a.1 in absurd (is.reads m.0)
  yes_end status slots longest has free check_ending.OutOfMemory a = inr (out status a)
  yes_end status slots longest has free check_ending.OutFault a = let m = means check_ending.OutFault a.1 in absurd (free m.3)

pub check_exact : (c : Command) (status : ℕ) (ending : Ending) → Answers c status ending → CheckIsExact c status
check_exact c status ending a = record {
  too_long = λ words contents is long. of_ends c words contents is status ending (Checked check_ending.TooLong) a
      (too_long_end c words contents is status long);
  bad = λ words contents at is has. of_ends c words contents is status ending (Checked (check_ending.Bad at)) a (bad_end c words contents is status at has);
  no = λ words contents slot reason is has. of_ends c words contents is status ending (Checked (check_ending.No slot reason)) a
      (no_end c words contents is status slot reason has);
  yes = λ words contents slots longest is has free. of_ends c words contents is status ending (Checked check_ending.Yes) a
      (yes_end c words contents is status slots longest has free);
}
