-- At status 0 a job that runs a switch has a run: that of its texts.
use Rattle.std.proofs.Common.{◌≡◌, ℕ, Some, subst, arith}
use Rattle.switch_words.specs.Reading.{JobWords, run, gen, check, firm, CheckWords}
use Rattle.switch_plan.specs.GoodPlans.{SwitchPlan}
use Rattle.job_files.specs.declared.ending.Ending.{Ending}
use Rattle.job_files.specs.declared.ending.Ending.TheVariants.{Done, Usage, ReadFault, TooLong, Refused, JournalTooLong, PacketsTooLong, OutOfMemory}
use Rattle.job_files.specs.declared.ending.Ending.TheVariants.{WriteFault, Checked}
use Rattle.job_files.specs.Jobs.{RunsSwitch}
use Rattle.switch_run.specs.Endings.{Command, IsDone}
use Rattle.switch_run.specs.Causes.{Answers, HasRun, IsRunBy}
use Rattle.switch_run.proofs.Answering.{same_job}

-- the run of texts that were written
run_of : (c : Command) (job : JobWords) → c.job ≡ Some job → RunsSwitch job → IsDone job c.old c.new
    → (plan : SwitchPlan) × (slots : ℕ) × IsRunBy c plan slots
run_of c (run r) words runs done =
    let m = done.made in
    let is = m.outcome in
    (is.plan, is.slots, record { job = run r; table = m.table; captures = m.captures; words = words; inputs = m.inputs; run = is.run })
run_of c (gen g) words runs done =
    let m = done.made in
    let is = m.outcome in
    (is.plan, is.slots, record { job = gen g; table = m.table; captures = m.captures; words = words; inputs = m.inputs; run = is.run })
run_of c (check w) words runs done = absurd runs
run_of c (firm f) words runs done =
    let m = done.made in
    let is = m.outcome in
    (is.plan, is.slots, record { job = firm f; table = m.table; captures = m.captures; words = words; inputs = m.inputs; run = is.run })

-- a check has no texts
check_is_none : (job : JobWords) (w : CheckWords) → job ≡ check w → RunsSwitch job → ⊥
check_is_none job w is runs = subst RunsSwitch is runs

module _ (c : Command) (job : JobWords) (words : c.job ≡ Some job) where
  done_of : (other : JobWords) → c.job ≡ Some other → IsDone other c.old c.new → IsDone job c.old c.new
  done_of other is done = subst (λ (n : JobWords). IsDone n c.old c.new) (same_job c job other words is) done

  -- a job whose check ended is a check
  is_check : (w : CheckWords) (other : JobWords) → c.job ≡ Some other → other ≡ check w → job ≡ check w
  is_check w other is same = subst (λ (n : JobWords). n ≡ check w) (same_job c job other words is) same

-- at another status nothing is promised
no_run : (c : Command) (status : ℕ) → (status ≡ 0 → ⊥) → HasRun c status
no_run c status other = λ job words runs done. absurd (other done)

pub has_run : (c : Command) (status : ℕ) (ending : Ending) → Answers c status ending → HasRun c status
has_run c status Done a = λ job words runs at. run_of c job words runs (done_of c job words a.1.0 a.1.1 a.1.2)
has_run c status Usage a = no_run c status (λ done. omega (arith, a.0, done))
has_run c status (ReadFault input) a = no_run c status (λ done. omega (arith, a.0, done))
has_run c status (TooLong input) a = no_run c status (λ done. omega (arith, a.0, done))
has_run c status (Refused fault) a = no_run c status (λ done. omega (arith, a.0, done))
has_run c status (JournalTooLong size) a = no_run c status (λ done. omega (arith, a.0, done))
has_run c status (PacketsTooLong size) a = no_run c status (λ done. omega (arith, a.0, done))
has_run c status OutOfMemory a = no_run c status (λ done. omega (arith, a.0, done))
has_run c status (WriteFault what) a = no_run c status (λ done. omega (arith, a.0, done))
has_run c status (Checked e) a = λ job words runs at.
    absurd (check_is_none job a.1.stops.words (is_check c job words a.1.stops.words a.1.job a.1.words a.1.stops.is_check) runs)
