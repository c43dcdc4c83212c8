-- Steps of proofs: what the notes of a run hold after so many of its slots, and why its texts are not made.
use Rattle.std.specs.Prelude.{◌≡◌, ℕ, ◌<◌, ◌≤◌, if◌then◌else◌, Bool, true, false, List, Option, None, Some, IfSome, is_some, length, option_map, string_bytes}
use Rattle.eslip_rounds.specs.Schedulers.{Scheduler}
use Rattle.slot_report.specs.Lines.{lines_text}
use Rattle.slot_report.specs.Texts.{journal_line, map_with_place}
use Rattle.switch_plan.specs.GoodPlans.{SwitchPlan, IsGood, IsBurst, IsCountable}
use Rattle.run_laws.specs.Runs.{journal_under}
use Rattle.journal_check.specs.declared.limits.TheConstants.{MAX_JOURNAL_BYTES}
use Rattle.journal_check.specs.WritingSteps.{WriterValue, IsWriting}
use Rattle.output_queued.specs.NotingSteps.{State}
use Rattle.queue_measures.specs.NotingSteps.{Input, HasNoted as HasNotedQueues}
use Rattle.packet_times.specs.declared.limits.TheConstants.{MAX_PACKETS_BYTES}
use Rattle.packet_times.specs.Rows.{packets_text_under}
use Rattle.packet_times.specs.KeptSteps.{left}
use Rattle.packet_times.specs.NotingSteps.{Times, HasNoted as HasNotedTimes}
use Rattle.run_journals.specs.RunFiles.{run_file_under, journal_text_under}
use Rattle.reference_run.specs.RunLines.{run_matches_under}
use Rattle.reference_run.specs.MeetingSteps.{IsReferenceOf}
use Rattle.run_notes.specs.Told.{Told}
use Rattle.run_notes.specs.declared.wanted.Wanted.{Wanted}
use Rattle.run_notes.specs.declared.texts.NotedTexts.{NotedTexts}
use Rattle.run_notes.specs.declared.texts.NotesFault.{NotesFault}
use Rattle.run_notes.specs.declared.texts.NotesFault.TheVariants.{JournalTooLong, PacketsTooLong, OutOfMemory}

-- what is wanted, and what is noted, each where it is wanted
pub record Notes : Type 0 where
  pub wanted : Wanted
  pub slots : Option (List ℕ)
  pub journal : Option WriterValue
  pub reference : Option State
  pub queues : Option (List Input)
  pub packets : Option Times

-- It is there where it is wanted, and this holds of it.
pub record IsKept {X : Type 0} (is_wanted : Bool) (Holds : X → Type 0) (x : Option X) : Type 0 where
  pub there : is_some x ≡ is_wanted
  pub holds : IfSome x Holds

-- the lines of the first t slots
abbrev pub AreLinesOf : Scheduler → SwitchPlan → ℕ → List ℕ → Type 0
AreLinesOf scheduler plan t lines = lines ≡ lines_text (map_with_place journal_line (journal_under scheduler plan t))

-- a writer of their journal
abbrev pub IsJournalOf : Scheduler → SwitchPlan → ℕ → WriterValue → Type 0
IsJournalOf scheduler plan t writer = IsWriting (run_file_under scheduler plan t) writer

-- the reference that has noted their matches
abbrev pub IsReferenceAfter : Scheduler → SwitchPlan → ℕ → State → Type 0
IsReferenceAfter scheduler plan t reference = IsReferenceOf plan reference (run_matches_under scheduler plan t)

-- the measures of the queues after them
abbrev pub AreQueuesAfter : Scheduler → SwitchPlan → ℕ → List Input → Type 0
AreQueuesAfter scheduler plan t measures = HasNotedQueues scheduler plan measures t

-- the times of the packets after them
abbrev pub AreTimesAfter : Scheduler → SwitchPlan → ℕ → Times → Type 0
AreTimesAfter scheduler plan t times = HasNotedTimes scheduler plan times t

-- The first t slots of the plan's run under the scheduler are noted. A journal is kept of a burst alone.
pub record HasNoted (scheduler : Scheduler) (plan : SwitchPlan) (notes : Notes) (t : ℕ) : Type 0 where
  pub good : IsGood plan
  pub countable : IsCountable plan
  pub burst : notes.wanted.journal ≡ true → IsBurst plan
  pub slots : IsKept notes.wanted.slots (AreLinesOf scheduler plan t) notes.slots
  pub journal : IsKept notes.wanted.journal (IsJournalOf scheduler plan t) notes.journal
  pub reference : IsKept notes.wanted.reference (IsReferenceAfter scheduler plan t) notes.reference
  pub queues : IsKept notes.wanted.queues (AreQueuesAfter scheduler plan t) notes.queues
  pub packets : IsKept notes.wanted.packets (AreTimesAfter scheduler plan t) notes.packets

-- what the texts tell
abbrev pub told_by : NotedTexts → Told
told_by texts = record {
  slots = string_bytes texts.slots;
  journal = option_map (λ bytes. bytes.items) texts.journal;
  reference = string_bytes texts.reference;
  queues = string_bytes texts.queues;
  packets = option_map left texts.packets;
}

-- Why the texts of a run, which is long or not, are not made: its journal is wanted and too long, or else the packets file of a
-- run that is not long is, or there is no memory.
abbrev pub StopsTold : Scheduler → Wanted → Bool → SwitchPlan → ℕ → NotesFault → Type 0
StopsTold scheduler wanted long plan slots (JournalTooLong size) =
    (wanted.journal ≡ true) × (size ≡ length (journal_text_under scheduler plan slots)) × (MAX_JOURNAL_BYTES < size)
StopsTold scheduler wanted long plan slots (PacketsTooLong size) =
    (long ≡ false) × (wanted.packets ≡ true) × (size ≡ length (packets_text_under scheduler plan slots)) × (MAX_PACKETS_BYTES < size)
    × (wanted.journal ≡ true → length (journal_text_under scheduler plan slots) ≤ MAX_JOURNAL_BYTES)
StopsTold scheduler wanted long plan slots OutOfMemory = Unit {0}

-- why the bytes of a journal are not made: they are wanted, and too long
abbrev pub StopsJournal : Bool → List ℕ → NotesFault → Type 0
StopsJournal is_wanted text (JournalTooLong size) = (is_wanted ≡ true) × (size ≡ length text) × (MAX_JOURNAL_BYTES < size)
StopsJournal is_wanted text (PacketsTooLong size) = ⊥
StopsJournal is_wanted text OutOfMemory = ⊥

-- why a packets file is not made: it is wanted and too long, and the run is not long, or there is no memory
abbrev pub StopsPackets : Bool → Bool → List ℕ → NotesFault → Type 0
StopsPackets is_wanted long text (PacketsTooLong size) = (long ≡ false) × (is_wanted ≡ true) × (size ≡ length text) × (MAX_PACKETS_BYTES < size)
StopsPackets is_wanted long text (JournalTooLong size) = ⊥
StopsPackets is_wanted long text OutOfMemory = Unit {0}

-- a packets file, where it is wanted, of no more bytes than it may have where the run is not long
pub record IsPacketsFile (is_wanted long : Bool) (text : List ℕ) (bytes : Option (List ℕ)) : Type 0 where
  pub is : bytes ≡ (if is_wanted then Some text else None)
  pub small : long ≡ false → IfSome bytes (λ b. length b ≤ MAX_PACKETS_BYTES)
