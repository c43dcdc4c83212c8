-- The texts of a run, from what it left.
use Rattle.std.proofs.Common.{◌≡◌, ◌≤◌, ◌++◌, ℕ, Bool, true, false, List, [], ◌∷◌, length, Option, refl, sym, ◌∙◌, ap, append_assoc, subst}
use Rattle.std.specs.Prelude.{IfSome, is_some, if◌then◌else◌}
use Rattle.std.proofs.lemmas.List.{length-map}
use Rattle.std.proofs.lemmas.List.FromFn.{length-map-range_with_len}
use Rattle.pcap_records.specs.Output.{capture_text}
use Rattle.eslip_rounds.specs.Schedulers.{Scheduler}
use Rattle.firm_rounds.specs.Decisions.{firm_decision}
use Rattle.named_schedulers.specs.Named.{decision_named}
use Rattle.slot_histories.specs.Answers.{JournalSlot}
use Rattle.slot_report.specs.declared.summary.OutLine.{OutLine}
use Rattle.slot_report.specs.declared.summary.Summary.{Summary}
use Rattle.slot_report.specs.Lines.{lines_text}
use Rattle.slot_report.specs.Texts.{journal_line, map_with_place, report_bytes, summary_lines}
use Rattle.switch_words.specs.declared.job.Settings.{Settings}
use Rattle.switch_words.specs.declared.job.GenJob.{GenJob}
use Rattle.switch_words.specs.Reading.{FirmWords, JobWords, RunWords, firm, gen, run}
use Rattle.journal_check.specs.declared.limits.TheConstants.{MAX_JOURNAL_BYTES}
use Rattle.switch_plan.specs.GoodPlans.{SwitchPlan}
use Rattle.switch_plan.specs.ReadingSteps.{bytes_of_files}
use Rattle.run_laws.specs.Runs.{journal_under, ports_of}
use Rattle.run_laws.specs.Outcomes.{messages_under, summary_under}
use Rattle.descriptor_runs.specs.declared.outputs.Captures.TheVariants.{Kept}
use Rattle.descriptor_runs.specs.declared.runs.RunOutcome.{RunOutcome}
use Rattle.descriptor_runs.specs.Outcomes.{IsRunOutcome}
use Rattle.packet_times.specs.declared.limits.TheConstants.{MAX_PACKETS_BYTES}
use Rattle.run_notes.specs.declared.wanted.Wanted.{Wanted}
use Rattle.run_notes.specs.NotingSteps.{told_by}
use Rattle.run_notes.specs.Told.{Told, told_under}
use Rattle.switch_run.specs.declared.runs.EndedRun.{EndedRun}
use Rattle.switch_run.specs.MakingSteps.{AreMade, AreNumbersOf, IsRan, ToWrite}
use Rattle.outside.specs.WholeFiles.{NamedBytes}
use Rattle.job_files.specs.FileSteps.{files_before}
use Rattle.job_files.specs.OutputFiles.{files_from, files_in_order, files_of, journal_files, packets_files, packets_place, report_name, Texts}
use Rattle.job_files.proofs.Holding.{firm_is_no_run, gen_is_no_run}
use Rattle.switch_run.specs.Switched.{AreTexts, IsRunOf, IsSwitched, nothing_wanted, out_lines_under, report_under, texts_under, wanted_by}

-- the packets file stands after the others
pub in_order : (prefix : List ℕ) (outputs : List (List ℕ)) (report : List ℕ) (journal packets : Option (List ℕ)) (first last : List NamedBytes)
    → first ≡ files_before prefix outputs report journal → last ≡ packets_files prefix packets
    → first ++ last ≡ files_in_order prefix outputs report journal packets
in_order prefix outputs report journal packets first last first_is last_is =
    ap (λ fs. fs ++ last) first_is ∙ ap (λ fs. files_before prefix outputs report journal ++ fs) last_is
    ∙ append_assoc (files_from prefix 0 outputs) (record { name = report_name prefix; bytes = report } ∷ journal_files prefix journal)
    (packets_files prefix packets)

-- the lines of the slots that are told of
pub slot_lines : (is_wanted : Bool) (slots : List JournalSlot)
    → (if is_wanted then lines_text (map_with_place journal_line slots) else []) ≡ lines_text (map_with_place journal_line (if is_wanted then slots else []))
slot_lines true slots = refl
slot_lines false slots = refl

module _ (scheduler : Scheduler) (plan : SwitchPlan) (slots : ℕ) (outcome : RunOutcome) (left : IsRunOutcome Kept scheduler plan slots outcome) where
  -- the report is that of the run
  pub report_is : (wanted : Wanted) (told : Told) (text : List ℕ)
      → text ≡ report_bytes outcome.summary outcome.lines.items told.queues (if wanted.slots then journal_under scheduler plan slots else []) ++ told.reference
      → told ≡ told_under scheduler wanted plan slots → text ≡ report_under scheduler wanted plan slots
  report_is wanted told text made told_is =
      let journal = if wanted.slots then journal_under scheduler plan slots else [] in
      let made_with : Summary → List OutLine → Told → List ℕ = λ s lines all. report_bytes s lines all.queues journal ++ all.reference in
      let same : made_with outcome.summary outcome.lines.items told
      ≡ made_with (summary_under scheduler plan slots) (out_lines_under scheduler plan slots) (told_under scheduler wanted plan slots) =
      ap (λ (s : Summary). made_with s outcome.lines.items told) left.summary
      ∙ ap (λ (all : List OutLine). made_with (summary_under scheduler plan slots) all told) left.lines
      ∙ ap (made_with (summary_under scheduler plan slots) (out_lines_under scheduler plan slots)) told_is in
      made ∙ same

-- ---- the texts of a job

module _ (r : RunWords) (table : List ℕ) (captures : List (List ℕ)) (it : EndedRun)
    (ran : IsRan (decision_named r.scheduler) r.settings (wanted_by r) table captures it) where
  abbrev by : Scheduler
  by = decision_named r.scheduler

  abbrev plan : SwitchPlan
  plan = ran.plan

  abbrev slots : ℕ
  slots = ran.ran.slots

  abbrev texts : Texts
  texts = texts_under by (wanted_by r) plan slots

  abbrev told : Told
  told = told_by it.told

  the_run : IsRunOf by r.settings table captures plan slots
  the_run = record { planned = ran.planned; ends = ran.ran.left.ends }

  length-outputs : length texts.outputs ≡ length captures
  length-outputs =
      length-map-range_with_len (λ j. capture_text plan.nano plan.link (messages_under by plan j slots)) 0 (ports_of plan)
      ∙ sym (length-map plan.cards (λ card. card.bytes)) ∙ ap length ran.planned.planned.kept

  -- the lines of the slots, as the report takes them
  pub lines_told : told.slots ≡ lines_text (map_with_place journal_line (if r.slots then journal_under by plan slots else []))
  lines_told = ap (λ (all : Told). all.slots) ran.ran.told ∙ slot_lines r.slots (journal_under by plan slots)

  pub run_made : (report : List ℕ) (written : ToWrite)
      → report ≡ report_bytes it.outcome.summary it.outcome.lines.items told.queues (if r.slots then journal_under by plan slots else []) ++ told.reference
      → written.outputs ≡ length it.outcome.captures.items → written.before ≡ packets_place (length (bytes_of_files it.outcome.captures)) (is_some told.journal)
      → written.files ≡ files_in_order r.prefix (bytes_of_files it.outcome.captures) report told.journal told.packets
      → written.summary ≡ lines_text (summary_lines it.outcome.summary) → AreMade (run r) table captures written
  run_made report written report_made outputs_is before_is files_is summary_is =
      let left = ran.ran.left in
      let made = bytes_of_files it.outcome.captures in
      let captures_are : made ≡ texts.outputs = left.captures in
      let count : length it.outcome.captures.items ≡ length made = sym (length-map it.outcome.captures.items (λ file. file.items)) in
      let report_same : report ≡ texts.report = report_is by plan slots it.outcome left (wanted_by r) told report report_made ran.ran.told in
      let journal_same : told.journal ≡ texts.journal = ap (λ (all : Told). all.journal) ran.ran.told in
      let packets_same : told.packets ≡ texts.packets = ap (λ (all : Told). all.packets) ran.ran.told in
      record {
        texts = texts;
        outcome = record {
          plan = plan;
          slots = slots;
          run = the_run;
          are = refl;
          small = subst (λ (o : Option (List ℕ)). IfSome o (λ bytes. length bytes ≤ MAX_JOURNAL_BYTES)) journal_same ran.ran.small;
          packets_small = λ short. subst (λ (o : Option (List ℕ)). IfSome o (λ bytes. length bytes ≤ MAX_PACKETS_BYTES)) packets_same
              (ran.ran.packets_small short);
        };
        count = length-outputs;
        outputs_are = λ words is. outputs_is ∙ count ∙ ap length captures_are;
        before = λ words is. before_is ∙ ap (λ (xs : List (List ℕ)). packets_place (length xs) (is_some told.journal)) captures_are
            ∙ ap (λ (o : Option (List ℕ)). packets_place (length texts.outputs) (is_some o)) journal_same;
        files_are = files_is
            ∙ ap (λ (xs : List (List ℕ)). files_in_order r.prefix xs report told.journal told.packets) captures_are
            ∙ ap (λ (bytes : List ℕ). files_in_order r.prefix texts.outputs bytes told.journal told.packets) report_same
            ∙ ap (λ (o : Option (List ℕ)). files_in_order r.prefix texts.outputs texts.report o told.packets) journal_same
            ∙ ap (files_in_order r.prefix texts.outputs texts.report texts.journal) packets_same;
        summary_is = summary_is ∙ ap (λ (s : Summary). lines_text (summary_lines s)) left.summary;
      }

-- A job that is no `run` writes the summary of its run alone: the texts of the outputs and the report are those of the run, and
-- are not written.
pub record IsAlone (job : JobWords) : Type 0 where
  pub scheduler : Scheduler
  pub settings : Settings
  pub no_run : (r : RunWords) → job ≡ run r → ⊥
  pub texts : (table : List ℕ) (captures : List (List ℕ)) (texts : Texts) → IsSwitched scheduler settings nothing_wanted table captures texts
      → AreTexts job table captures texts
  pub files : (texts : Texts) → files_of job texts ≡ []

abbrev pub gen_alone : (g : GenJob) → IsAlone (gen g)
gen_alone g = record {
  scheduler = decision_named g.scheduler;
  settings = g.settings;
  no_run = gen_is_no_run g;
  texts = λ table captures texts is. is;
  files = λ texts. refl;
}

abbrev pub firm_alone : (f : FirmWords) → IsAlone (firm f)
firm_alone f = record {
  scheduler = firm_decision;
  settings = f.settings;
  no_run = firm_is_no_run f;
  texts = λ table captures texts is. is;
  files = λ texts. refl;
}

pub summary_made : (job : JobWords) (alone : IsAlone job) (table : List ℕ) (captures : List (List ℕ)) (numbers : Summary) (written : ToWrite)
    → AreNumbersOf alone.scheduler alone.settings table captures numbers → written.files ≡ [] → written.summary ≡ lines_text (summary_lines numbers)
    → AreMade job table captures written
summary_made job alone table captures numbers written of no_files summary_is =
    let scheduler = alone.scheduler in
    let texts = texts_under scheduler nothing_wanted of.plan of.ran.slots in
    let ran : IsRunOf scheduler alone.settings table captures of.plan of.ran.slots = record { planned = of.planned; ends = of.ran.ends } in
    record {
      texts = texts;
      outcome = alone.texts table captures texts
          (record { plan = of.plan; slots = of.ran.slots; run = ran; are = refl; small = tt; packets_small = λ short. tt });
      count = length-map-range_with_len (λ j. capture_text of.plan.nano of.plan.link (messages_under scheduler of.plan j of.ran.slots)) 0 (ports_of of.plan)
          ∙ sym (length-map of.plan.cards (λ card. card.bytes)) ∙ ap length of.planned.planned.kept;
      outputs_are = λ words is. absurd (alone.no_run words is);
      before = λ words is. absurd (alone.no_run words is);
      files_are = no_files ∙ sym (alone.files texts);
      summary_is = summary_is ∙ ap (λ (s : Summary). lines_text (summary_lines s)) of.ran.are;
    }
