-- What a `gen` job comes to: its inputs are made, so nothing of it rests on what files hold.
use Rattle.std.proofs.Common.{◌≡◌, ℕ, List, Option, Some, inl, inr, subst, arith}
use Rattle.std.specs.Prelude.{◌⊎◌}
use Rattle.outside.specs.Contents.{Contents}
use Rattle.outside.specs.Faults.{ToOut, Rose}
use Rattle.switch_words.specs.declared.job.GenJob.{GenJob}
use Rattle.switch_words.specs.Reading.{JobWords, run, gen, check, RunWords, CheckWords}
use Rattle.switch_plan.specs.declared.fault.PlanFault.{PlanFault}
use Rattle.switch_plan.specs.Made.{made_table, made_captures}
use Rattle.switch_plan.specs.Refusals.{IsRefusal, terms_of}
use Rattle.switch_plan.proofs.Refused.{refusal_once}
use Rattle.job_files.specs.Jobs.{ReadWords, reads_of}
use Rattle.job_files.specs.OutputFiles.{Texts}
use Rattle.job_files.specs.declared.ending.Written.{Written}
use Rattle.job_files.specs.declared.ending.Written.TheVariants.{Output, Report, Journal, Packets, StandardOutput}
use Rattle.job_files.specs.declared.ending.Ending.{Ending}
use Rattle.job_files.specs.declared.ending.Ending.TheVariants.{Done, Usage, ReadFault, TooLong, Refused, JournalTooLong, PacketsTooLong, OutOfMemory}
use Rattle.job_files.specs.declared.ending.Ending.TheVariants.{WriteFault, Checked}
use Rattle.switch_run.specs.Switched.{AreTexts}
use Rattle.switch_run.specs.Endings.{Command, IsDone, IsMade, IsRefused, IsStopped, Stops, StopsWriting}
use Rattle.switch_run.specs.Causes.{Answers, AnswersUnlessOut, GenIsExact}
use Rattle.switch_run.proofs.OneOutcome.{not_made}
use Rattle.switch_run.proofs.Answering.{no_job, same_job}

-- the job reads no file, is no `run` job and no check
reads_none : (g : GenJob) (r : ReadWords) → reads_of (gen g) ≡ Some r → ⊥
reads_none g r reads = absurd (cc)

not_run : (g : GenJob) (r : RunWords) → gen g ≡ run r → ⊥
not_run g r same = absurd (cc)

not_check : (g : GenJob) (w : CheckWords) → gen g ≡ check w → ⊥
not_check g w same = absurd (cc)

-- the inputs that it makes are refused for this
abbrev IsRefusedMade : GenJob → PlanFault → Type 0
IsRefusedMade g fault = IsRefusal (terms_of g.settings) (made_table g.ports) (made_captures g) fault

refused_made : (g : GenJob) (old : Option Contents) (fault : PlanFault) → IsRefused (gen g) old fault → IsRefusedMade g fault
refused_made g old fault r =
    subst (λ (bytes : List ℕ). IsRefusal (terms_of g.settings) bytes (made_captures g) fault) r.inputs.0
    (subst (λ (files : List (List ℕ)). IsRefusal (terms_of g.settings) r.table files fault) r.inputs.1 r.outcome)

-- what is refused makes no texts
nothing_made : (g : GenJob) (old : Option Contents) (texts : Texts) (fault : PlanFault) → IsMade (gen g) old texts → IsRefusedMade g fault → ⊥
nothing_made g old texts fault m refused =
    not_made (gen g) (made_table g.ports) (made_captures g) fault texts refused
    (subst (λ (bytes : List ℕ). AreTexts (gen g) bytes (made_captures g) texts) m.inputs.0
    (subst (λ (files : List (List ℕ)). AreTexts (gen g) m.table files texts) m.inputs.1 m.outcome))

-- all that it writes is given to standard output
out_refused : (c : Command) (g : GenJob) (texts : Texts) (what : Written) (seen : Option Contents) → StopsWriting (gen g) texts what c.old c.was c.now seen
    → Rose (c.was ToOut) (c.now ToOut)
out_refused c g texts (Output port) seen s = absurd (omega (arith, s.1.within))
out_refused c g texts Report seen s = absurd (omega (arith, s.within))
out_refused c g texts Journal seen s = absurd (omega (arith, s.1.within))
out_refused c g texts Packets seen s = absurd (omega (arith, s.within))
out_refused c g texts StandardOutput seen s = s.rose

module _ (c : Command) (status : ℕ) (g : GenJob) (words : c.job ≡ Some (gen g)) where
  -- why it stopped
  stops_of : (ending : Ending) → (s : IsStopped c ending) → Stops (gen g) c.old c.was c.now s.seen ending
  stops_of ending s = subst (λ (n : JobWords). Stops n c.old c.was c.now s.seen ending) (same_job c (gen g) s.job words s.words) s.stops

  -- what it wrote, where it did
  done_of : (job : JobWords) → c.job ≡ Some job → IsDone job c.old c.new → IsDone (gen g) c.old c.new
  done_of job is done = subst (λ (n : JobWords). IsDone n c.old c.new) (same_job c (gen g) job words is) done

  refusal_made : (ending : Ending) → Answers c status ending → (fault : PlanFault) → IsRefusedMade g fault → AnswersUnlessOut c status (Refused fault)
  refusal_made Done a fault refused =
      let done = done_of a.1.0 a.1.1 a.1.2 in
      absurd (nothing_made g c.old done.texts fault done.made refused)
  refusal_made Usage a fault refused = absurd (no_job c (gen g) words a.1.0)
  refusal_made (ReadFault input) a fault refused = let stops = stops_of (ReadFault input) a.1 in absurd (reads_none g stops.0.words stops.0.reads)
  refusal_made (TooLong input) a fault refused = let stops = stops_of (TooLong input) a.1 in absurd (reads_none g stops.0.words stops.0.reads)
  refusal_made (Refused found) a fault refused =
      let stops = stops_of (Refused found) a.1 in
      let same = refusal_once (terms_of g.settings) (made_table g.ports) (made_captures g) found fault (refused_made g c.old found stops.0) refused in
      inl (subst (λ (f : PlanFault). Answers c status (Refused f)) same a)
  refusal_made (JournalTooLong size) a fault refused =
      let stops = stops_of (JournalTooLong size) a.1 in
      absurd (not_run g stops.0.words stops.0.is_run)
  refusal_made (PacketsTooLong size) a fault refused =
      let stops = stops_of (PacketsTooLong size) a.1 in
      absurd (not_run g stops.0.words stops.0.is_run)
  refusal_made OutOfMemory a fault refused = inr a
  refusal_made (WriteFault what) a fault refused =
      let stops = stops_of (WriteFault what) a.1 in
      absurd (nothing_made g c.old stops.texts fault stops.made refused)
  refusal_made (Checked e) a fault refused = let stops = stops_of (Checked e) a.1 in absurd (not_check g stops.words stops.is_check)

  complete_made : (ending : Ending) → Answers c status ending → ((fault : PlanFault) → IsRefusedMade g fault → ⊥)
      → (Rose (c.was ToOut) (c.now ToOut) → ⊥) → (status ≡ 0) ⊎ (status ≡ 5)
  complete_made Done a taken free = inl a.0
  complete_made Usage a taken free = absurd (no_job c (gen g) words a.1.0)
  complete_made (ReadFault input) a taken free = let stops = stops_of (ReadFault input) a.1 in absurd (reads_none g stops.0.words stops.0.reads)
  complete_made (TooLong input) a taken free = let stops = stops_of (TooLong input) a.1 in absurd (reads_none g stops.0.words stops.0.reads)
  complete_made (Refused fault) a taken free =
      let stops = stops_of (Refused fault) a.1 in
      absurd (taken fault (refused_made g c.old fault stops.0))
  complete_made (JournalTooLong size) a taken free =
      let stops = stops_of (JournalTooLong size) a.1 in
      absurd (not_run g stops.0.words stops.0.is_run)
  complete_made (PacketsTooLong size) a taken free =
      let stops = stops_of (PacketsTooLong size) a.1 in
      absurd (not_run g stops.0.words stops.0.is_run)
  complete_made OutOfMemory a taken free = inr a.0
  complete_made (WriteFault what) a taken free =
      let stops = stops_of (WriteFault what) a.1 in
      absurd (free (out_refused c g stops.texts what a.1.seen stops.stops))
  complete_made (Checked e) a taken free = let stops = stops_of (Checked e) a.1 in absurd (not_check g stops.words stops.is_check)

pub gen_exact : (c : Command) (status : ℕ) (ending : Ending) → Answers c status ending → GenIsExact c status
gen_exact c status ending a = record {
  refusal = λ g fault words refused. refusal_made c status g words ending a fault refused;
  complete = λ g words taken free. complete_made c status g words ending a taken free;
}
