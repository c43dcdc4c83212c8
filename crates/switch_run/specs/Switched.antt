-- What a job makes of the bytes of its table and its captures.
use Rattle.std.specs.Prelude.{◌≡◌, ◌<◌, ◌≤◌, ℕ, true, false, if◌then◌else◌, List, [], ◌++◌, map, length, None, Result, Ok, Err, IfSome}
use Rattle.std.specs.List.{range_with_len}
use Rattle.pcap_records.specs.Output.{capture_text}
use Rattle.forward_table.specs.declared.route_lines.RouteLine.{RouteLine}
use Rattle.slot_report.specs.declared.summary.OutLine.{OutLine}
use Rattle.slot_report.specs.Lines.{lines_text}
use Rattle.slot_report.specs.Texts.{summary_lines, report_bytes}
use Rattle.journal_check.specs.declared.limits.TheConstants.{MAX_JOURNAL_BYTES}
use Rattle.switch_words.specs.declared.job.Settings.{Settings}
use Rattle.switch_words.specs.Reading.{JobWords, run, gen, check, firm, RunWords}
use Rattle.switch_plan.specs.declared.fault.PlanFault.{PlanFault}
use Rattle.switch_plan.specs.Traffic.{CaptureFile}
use Rattle.switch_plan.specs.Refusals.{AreRead, terms_of, refusal_of, IsRefusal}
use Rattle.switch_plan.specs.GoodPlans.{SwitchPlan, IsGood, IsBurst, IsCountable, IsPlanOf}
use Rattle.eslip_rounds.specs.Schedulers.{Scheduler}
use Rattle.firm_rounds.specs.Decisions.{firm_decision}
use Rattle.named_schedulers.specs.Named.{decision_named}
use Rattle.run_laws.specs.Runs.{ports_of, journal_under}
use Rattle.run_laws.specs.Ends.{IsLengthUnder}
use Rattle.run_laws.specs.Crossings.{cells_under}
use Rattle.run_laws.specs.Outcomes.{messages_under, summary_under}
use Rattle.packet_times.specs.declared.limits.TheConstants.{MAX_PACKETS_BYTES}
use Rattle.packet_times.specs.Rows.{packets_text_under}
use Rattle.run_journals.specs.RunFiles.{journal_text_under}
use Rattle.run_notes.specs.declared.wanted.Wanted.{Wanted}
use Rattle.run_notes.specs.Told.{told_under}
use Rattle.job_files.specs.OutputFiles.{Texts}
use Rattle.job_files.specs.Jobs.{terms_in}

-- what the run of a `run` job is to tell beside its captures, the report's numbers and the summary
abbrev pub wanted_by : RunWords → Wanted
wanted_by r = record { slots = r.slots; journal = r.journal; reference = r.reference; queues = r.queues; packets = r.packets }

-- and that of a `gen` and of a `firm` job
abbrev pub nothing_wanted : Wanted
nothing_wanted = record { slots = false; journal = false; reference = false; queues = false; packets = false }

-- the number of packets and of cells that come to output j in the first slots
abbrev pub out_line_under : Scheduler → SwitchPlan → ℕ → ℕ → OutLine
out_line_under scheduler plan slots j = record {
  packets = length (messages_under scheduler plan j slots);
  cells = length (cells_under scheduler plan j slots);
}

-- the numbers of all outputs
abbrev pub out_lines_under : Scheduler → SwitchPlan → ℕ → List OutLine
out_lines_under scheduler plan slots = map (out_line_under scheduler plan slots) (range_with_len 0 (ports_of plan))

-- the report of a run of so many slots: its numbers and those of its outputs, and then, each where these are wanted, the
-- lines of its queues, of its slots and of the reference
abbrev pub report_under : Scheduler → Wanted → SwitchPlan → ℕ → List ℕ
report_under scheduler wanted plan slots =
    report_bytes (summary_under scheduler plan slots) (out_lines_under scheduler plan slots) (told_under scheduler wanted plan slots).queues
    (if wanted.slots then journal_under scheduler plan slots else [])
    ++ (told_under scheduler wanted plan slots).reference

-- the texts of a run of so many slots
abbrev pub texts_under : Scheduler → Wanted → SwitchPlan → ℕ → Texts
texts_under scheduler wanted plan slots = record {
  outputs = map (λ j. capture_text plan.nano plan.link (messages_under scheduler plan j slots)) (range_with_len 0 (ports_of plan));
  report = report_under scheduler wanted plan slots;
  journal = (told_under scheduler wanted plan slots).journal;
  packets = (told_under scheduler wanted plan slots).packets;
  summary = lines_text (summary_lines (summary_under scheduler plan slots));
}

-- The plan of a job: its table and captures are those that the bytes are, none of the limits refuses them, and the plan
-- is theirs. Its run can be counted; it is a burst where the job is not long.
pub record IsPlanned (settings : Settings) (table : List ℕ) (files : List (List ℕ)) (plan : SwitchPlan) : Type 0 where
  pub lines : List RouteLine
  pub captures : List CaptureFile
  pub read : AreRead table files lines captures
  pub allowed : refusal_of (terms_of settings) lines captures ≡ None
  pub good : IsGood plan
  pub countable : IsCountable plan
  pub burst : settings.long ≡ false → IsBurst plan
  pub planned : IsPlanOf settings files lines captures plan

-- The run of a job under a scheduler: its plan, and how many slots the plan's run has.
pub record IsRunOf (scheduler : Scheduler) (settings : Settings) (table : List ℕ) (files : List (List ℕ)) (plan : SwitchPlan) (slots : ℕ) : Type 0 where
  pub planned : IsPlanned settings table files plan
  pub ends : IsLengthUnder scheduler plan slots

-- The switch theorem for one job: the texts are those of the run of its table and captures under the scheduler. A journal
-- has at most 134,217,728 bytes, and so has a packets file but of a long job.
pub record IsSwitched (scheduler : Scheduler) (settings : Settings) (wanted : Wanted) (table : List ℕ) (files : List (List ℕ)) (texts : Texts)
    : Type 0 where
  pub plan : SwitchPlan
  pub slots : ℕ
  pub run : IsRunOf scheduler settings table files plan slots
  pub are : texts ≡ texts_under scheduler wanted plan slots
  pub small : IfSome texts.journal (λ bytes. length bytes ≤ MAX_JOURNAL_BYTES)
  pub packets_small : settings.long ≡ false → IfSome texts.packets (λ bytes. length bytes ≤ MAX_PACKETS_BYTES)

-- The texts that a job makes of a table and captures. Whether its run is made at a board or on one thread is nowhere in
-- this: the bytes are the same.
abbrev pub AreTexts : JobWords → List ℕ → List (List ℕ) → Texts → Type 0
AreTexts (run r) table files texts = IsSwitched (decision_named r.scheduler) r.settings (wanted_by r) table files texts
AreTexts (gen g) table files texts = IsSwitched (decision_named g.scheduler) g.settings nothing_wanted table files texts
AreTexts (check c) table files texts = ⊥
AreTexts (firm f) table files texts = IsSwitched firm_decision f.settings nothing_wanted table files texts

-- what a job comes to: texts, or the first cause for which it is refused
abbrev pub IsJobOutcome : JobWords → List ℕ → List (List ℕ) → Result Texts PlanFault → Type 0
IsJobOutcome job table files (Ok texts) = AreTexts job table files texts
IsJobOutcome job table files (Err fault) = IsRefusal (terms_in job) table files fault

-- The journal of the job's run would have this many bytes, which are more than a journal file may have.
pub record IsLongJournal (scheduler : Scheduler) (settings : Settings) (table : List ℕ) (files : List (List ℕ)) (size : ℕ) : Type 0 where
  pub plan : SwitchPlan
  pub slots : ℕ
  pub run : IsRunOf scheduler settings table files plan slots
  pub size_is : size ≡ length (journal_text_under scheduler plan slots)
  pub longer : MAX_JOURNAL_BYTES < size

-- No journal of the job that is wanted is too long.
abbrev pub JournalFits : RunWords → List ℕ → List (List ℕ) → Type 0
JournalFits r table files = (size : ℕ) → r.journal ≡ true → IsLongJournal (decision_named r.scheduler) r.settings table files size → ⊥

-- The packets file of the job's run would have this many bytes, which are more than it may have. Of a long job there is
-- no such limit.
pub record IsLongPackets (scheduler : Scheduler) (settings : Settings) (table : List ℕ) (files : List (List ℕ)) (size : ℕ) : Type 0 where
  pub plan : SwitchPlan
  pub slots : ℕ
  pub run : IsRunOf scheduler settings table files plan slots
  pub short : settings.long ≡ false
  pub size_is : size ≡ length (packets_text_under scheduler plan slots)
  pub longer : MAX_PACKETS_BYTES < size
