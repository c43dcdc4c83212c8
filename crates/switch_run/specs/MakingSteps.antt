-- What is made of a job's inputs, and what stops that: the words of the calls inside.
use Rattle.std.specs.Prelude.{◌≡◌, ◌≤◌, ℕ, true, false, Bool, List, length, map, Option, Some, Result, Ok, IfErr, IfOk, IfSome, OnOk, is_some}
use Rattle.std.specs.Prelude.{slice_get, string_bytes}
use Rattle.std.specs.List.{concat}
use Rattle.rotating_pick.specs.declared.limits.TheConstants.{MAX_PORTS}
use Rattle.outside.specs.Contents.{Contents}
use Rattle.outside.specs.Faults.{NeverFall, NoneRose, OnlyRose, Place}
use Rattle.outside.specs.WholeFiles.{NamedBytes}
use Rattle.eslip_rounds.specs.Schedulers.{Scheduler}
use Rattle.card_core.specs.declared.outcome.CardOut.{CardOut}
use Rattle.slot_report.specs.declared.summary.OutLine.{OutLine}
use Rattle.slot_report.specs.declared.summary.Summary.{Summary}
use Rattle.switch_words.specs.declared.job.Settings.{Settings}
use Rattle.switch_words.specs.Reading.{JobWords, run, RunWords}
use Rattle.switch_plan.specs.Refusals.{Terms, terms_of, IsRefusal}
use Rattle.switch_plan.specs.GoodPlans.{SwitchPlan}
use Rattle.run_laws.specs.Ends.{IsLengthUnder}
use Rattle.run_laws.specs.Outcomes.{summary_under}
use Rattle.journal_check.specs.declared.limits.TheConstants.{MAX_JOURNAL_BYTES}
use Rattle.packet_times.specs.declared.limits.TheConstants.{MAX_PACKETS_BYTES}
use Rattle.packet_times.specs.KeptSteps.{left}
use Rattle.run_notes.specs.declared.wanted.Wanted.{Wanted}
use Rattle.run_notes.specs.declared.texts.NotesFault.{NotesFault}
use Rattle.run_notes.specs.declared.texts.NotesFault.TheVariants as fault
use Rattle.run_notes.specs.NotingSteps.{StopsTold, told_by}
use Rattle.run_notes.specs.Told.{told_under}
use Rattle.descriptor_runs.specs.declared.outputs.Captures.TheVariants.{Kept}
use Rattle.descriptor_runs.specs.Outcomes.{IsRunOutcome}
use Rattle.job_files.specs.Inputs.{AreInputs}
use Rattle.job_files.specs.Jobs.{RunsSwitch}
use Rattle.job_files.specs.FileSteps.{all_shown}
use Rattle.job_files.specs.OutputFiles.{Texts, files_of, packets_place}
use Rattle.job_files.specs.Statuses.{refused_by}
use Rattle.job_files.specs.declared.output_files.JobTexts.{JobTexts}
use Rattle.switch_run.specs.declared.runs.EndedRun.{EndedRun}
use Rattle.switch_run.specs.declared.packets.PacketPieces.{PacketPieces}
use Rattle.switch_run.specs.Switched.{IsPlanned, IsJobOutcome, IsLongJournal, IsLongPackets}
use Rattle.switch_run.specs.Endings.{IsDone, Stops}
use Rattle.job_files.specs.declared.ending.Ending.{Ending}
use Rattle.job_files.specs.declared.ending.Ending.TheVariants.{Done, Refused, JournalTooLong, PacketsTooLong, OutOfMemory}

-- The plan's run under the scheduler came to its end: what it leaves and tells. Its packets file is limited if it is not long.
pub record IsRanOf (scheduler : Scheduler) (plan : SwitchPlan) (wanted : Wanted) (long : Bool) (is : EndedRun) : Type 0 where
  pub slots : ℕ
  pub left : IsRunOutcome Kept scheduler plan slots is.outcome
  pub few : length is.outcome.lines.items ≤ MAX_PORTS
  pub told : told_by is.told ≡ told_under scheduler wanted plan slots
  pub small : IfSome (told_by is.told).journal (λ bytes. length bytes ≤ MAX_JOURNAL_BYTES)
  pub packets_small : long ≡ false → IfSome (told_by is.told).packets (λ bytes. length bytes ≤ MAX_PACKETS_BYTES)

-- the same of the plan of a table and captures
pub record IsRan (scheduler : Scheduler) (settings : Settings) (wanted : Wanted) (table : List ℕ) (files : List (List ℕ)) (is : EndedRun) : Type 0 where
  pub plan : SwitchPlan
  pub planned : IsPlanned settings table files plan
  pub ran : IsRanOf scheduler plan wanted settings.long is

-- the outputs of a board got these messages
abbrev pub HaveMessages : (ℕ → List (List ℕ)) → List CardOut → Type 0
HaveMessages messages outputs = (j : ℕ) (out : CardOut) → slice_get outputs j ≡ Some out → (out.body.items ≡ concat (messages j))
    × (out.lens.items ≡ map length (messages j))

-- the report's numbers of an output of a board
abbrev pub line_of_card : CardOut → OutLine
line_of_card out = record { packets = out.packets; cells = out.cells }

-- What is to be written: files, of which so many are those of outputs and so many come before the packets file, and a summary.
pub record ToWrite : Type 0 where
  pub outputs : ℕ
  pub before : ℕ
  pub files : List NamedBytes
  pub summary : List ℕ

-- the bytes that are left of the pieces of a packets file
abbrev pub left_of : PacketPieces → List ℕ
left_of pieces = left pieces.rows

-- the words of what is to be written
abbrev pub to_write : JobTexts PacketPieces → ToWrite
to_write texts = record {
  outputs = texts.outputs;
  before = length texts.files.items;
  files = all_shown left_of texts;
  summary = string_bytes texts.summary;
}

-- what a job is to write of a table and captures
pub record AreMade (job : JobWords) (table : List ℕ) (captures : List (List ℕ)) (written : ToWrite) : Type 0 where
  pub texts : Texts
  pub outcome : IsJobOutcome job table captures (Ok texts)
  pub count : length texts.outputs ≡ length captures
  pub outputs_are : (r : RunWords) → job ≡ run r → written.outputs ≡ length texts.outputs
  pub before : (r : RunWords) → job ≡ run r → written.before ≡ packets_place (length texts.outputs) (is_some texts.journal)
  pub files_are : written.files ≡ files_of job texts
  pub summary_is : written.summary ≡ texts.summary

-- why no plan of a table and captures is made, on these terms
abbrev pub StopsPlan : Terms → List ℕ → List (List ℕ) → Ending → Type 0
StopsPlan terms table captures (Refused fault) = IsRefusal terms table captures fault
StopsPlan terms table captures OutOfMemory = Unit {0}
StopsPlan terms table captures _ = ⊥

-- how a job ends whose texts are not made
abbrev pub ending_of : NotesFault → Ending
ending_of (fault.JournalTooLong size) = JournalTooLong size
ending_of (fault.PacketsTooLong size) = PacketsTooLong size
ending_of fault.OutOfMemory = OutOfMemory

-- why the texts of the plan's run, which is long or not, are not made
abbrev pub StopsRun : Scheduler → SwitchPlan → Wanted → Bool → Ending → Type 0
StopsRun scheduler plan wanted long (JournalTooLong size) =
    (slots : ℕ) × IsLengthUnder scheduler plan slots × StopsTold scheduler wanted long plan slots (fault.JournalTooLong size)
StopsRun scheduler plan wanted long (PacketsTooLong size) =
    (slots : ℕ) × IsLengthUnder scheduler plan slots × StopsTold scheduler wanted long plan slots (fault.PacketsTooLong size)
StopsRun scheduler plan wanted long OutOfMemory = Unit {0}
StopsRun scheduler plan wanted long _ = ⊥

-- Why the texts of a run of a table and captures are not made: its journal is wanted and too long, or else its packets file
-- is, or there is no plan.
abbrev pub StopsTexts : Scheduler → Settings → Wanted → List ℕ → List (List ℕ) → Ending → Type 0
StopsTexts scheduler settings wanted table captures (JournalTooLong size) =
    (wanted.journal ≡ true) × IsLongJournal scheduler settings table captures size
StopsTexts scheduler settings wanted table captures (PacketsTooLong size) =
    (wanted.packets ≡ true) × IsLongPackets scheduler settings table captures size
    × ((other : ℕ) → wanted.journal ≡ true → IsLongJournal scheduler settings table captures other → ⊥)
StopsTexts scheduler settings wanted table captures ending = StopsPlan (terms_of settings) table captures ending

-- these are the numbers of the plan's run under the scheduler, to its end
pub record AreNumbers (scheduler : Scheduler) (plan : SwitchPlan) (summary : Summary) : Type 0 where
  pub slots : ℕ
  pub ends : IsLengthUnder scheduler plan slots
  pub within : slots ≤ plan.max_slots
  pub are : summary ≡ summary_under scheduler plan slots

-- the same of a table and captures
pub record AreNumbersOf (scheduler : Scheduler) (settings : Settings) (table : List ℕ) (files : List (List ℕ)) (summary : Summary) : Type 0 where
  pub plan : SwitchPlan
  pub planned : IsPlanned settings table files plan
  pub ran : AreNumbers scheduler plan summary

-- What a job is to write of inputs that are there.
pub record AreToWrite (job : JobWords) (seen : Option Contents) (written : ToWrite) : Type 0 where
  pub table : List ℕ
  pub captures : List (List ℕ)
  pub inputs : AreInputs job seen table captures
  pub few : length captures ≤ MAX_PORTS
  pub made : AreMade job table captures written

-- What making the texts of a job left and answered. Nothing was written and no count fell; where the texts are made none rose,
-- and they are to be written, and where they are not the job stops, and none rose but those of its ending.
pub record Makes (job : JobWords) (old : Option Contents) (was now : Place → ℕ) (new : Option Contents)
    (made : Result (JobTexts PacketPieces) Ending) : Type 0 where
  pub runs : RunsSwitch job
  pub new_is : new ≡ old
  pub never_fall : NeverFall was now
  pub no_fault : OnOk made (NoneRose was now)
  pub refused : IfErr made (λ ending. OnlyRose (refused_by ending) was now)
  pub texts : IfOk made (λ texts. AreToWrite job old (to_write texts))
  pub stops : IfErr made (Stops job old was now new)

-- how a job ends: it is done and all is written, or it stops before that, or its check ends
abbrev pub IsEndOf : JobWords → Option Contents → (Place → ℕ) → (Place → ℕ) → Option Contents → Ending → Type 0
IsEndOf job old was now new Done = IsDone job old new
IsEndOf job old was now new ending = Stops job old was now new ending
