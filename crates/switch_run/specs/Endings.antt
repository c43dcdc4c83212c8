-- How a command ends, and what each ending means.
use Rattle.std.specs.Prelude.{◌≡◌, ◌<◌, ◌+◌, ◌||◌, ℕ, Bool, true, false, is_some, List, take, length, bytes_eq, Option, Some, None, Ok, Err, option_map}
use Rattle.std.specs.Prelude.{IfSome, slice_index_or}
use Rattle.std.specs.List.{list_any}
use Rattle.outside.specs.Contents.{Contents, append_out}
use Rattle.outside.specs.Faults.{Place, ReadOf, ToOut, ToErr, Rose}
use Rattle.outside.specs.WholeFiles.{StopsAt}
use Rattle.job_files.specs.Checks.{MeansCheck}
use Rattle.job_files.specs.declared.check_ending.CheckEnding.{CheckEnding}
use Rattle.switch_words.specs.Options.{command_in}
use Rattle.switch_words.specs.Reading.{JobWords, run, gen, check, firm, RunWords, CheckWords, reading_of}
use Rattle.named_schedulers.specs.Named.{decision_named}
use Rattle.switch_plan.specs.declared.fault.PlanFault.{PlanFault}
use Rattle.job_files.specs.Jobs.{ReadWords, reads_of, input_name, IsInput}
use Rattle.job_files.specs.OutputFiles.{Texts, nameless, files_of, packets_place, put_files, put_texts, HoldsTexts}
use Rattle.switch_run.specs.Switched.{IsJobOutcome, IsLongJournal, IsLongPackets, JournalFits}
use Rattle.job_files.specs.Inputs.{EarlierFit, IsTooLongFor, AreInputs}
use Rattle.job_files.specs.LineParts.{GivesLine}
use Rattle.job_files.specs.RefusalLines.{memory_line}
use Rattle.job_files.specs.ErrorLines.{line_of, usage_line}
use Rattle.job_files.specs.declared.inputs.InputFile.{InputFile}
use Rattle.job_files.specs.declared.ending.Written.{Written}
use Rattle.job_files.specs.declared.ending.Written.TheVariants.{Output, Report, Journal, Packets, StandardOutput}
use Rattle.job_files.specs.declared.ending.Ending.{Ending}
use Rattle.job_files.specs.declared.ending.Ending.TheVariants.{Done, Usage, ReadFault, TooLong, Refused, JournalTooLong, PacketsTooLong, OutOfMemory}
use Rattle.job_files.specs.declared.ending.Ending.TheVariants.{WriteFault, Checked}

-- What a command found and left: whether its first word names a command, the job that its words mean, and the contents and the
-- counts of faults before and after.
pub record Command : Type 0 where
  pub named : Bool
  pub job : Option JobWords
  pub old : Option Contents
  pub new : Option Contents
  pub was : Place → ℕ
  pub now : Place → ℕ

-- the command of these words
abbrev pub command_of : List (List ℕ) → Option Contents → Option Contents → (Place → ℕ) → (Place → ℕ) → Command
command_of words old new was now = record { named = is_some (command_in words); job = reading_of words; old = old; new = new; was = was; now = now }

-- whether the job reads the file of this name: its table, the capture of a port, or the file that it checks; without a job none is read
abbrev pub is_own : Option JobWords → List ℕ → Bool
is_own None name = false
is_own (Some (run r)) name = bytes_eq name r.table || list_any (bytes_eq name) r.inputs
is_own (Some (gen g)) name = false
is_own (Some (check c)) name = bytes_eq name c.file
is_own (Some (firm f)) name = bytes_eq name f.table || list_any (bytes_eq name) f.inputs

-- A read of this file was refused. The files before it are there, and not too long.
pub record IsReadFault (job : JobWords) (seen : Option Contents) (was now : Place → ℕ) (input : InputFile) : Type 0 where
  pub words : ReadWords
  pub reads : reads_of job ≡ Some words
  pub known : IsInput words input
  pub earlier : IfSome seen (EarlierFit words input)
  pub rose : Rose (was (ReadOf (input_name words input))) (now (ReadOf (input_name words input)))

-- This file is too long. The files before it are there, and not too long.
pub record IsFirstTooLong (job : JobWords) (seen : Option Contents) (input : InputFile) : Type 0 where
  pub words : ReadWords
  pub reads : reads_of job ≡ Some words
  pub known : IsInput words input
  pub earlier : IfSome seen (EarlierFit words input)
  pub longer : IfSome seen (IsTooLongFor words input)

-- The bytes of the table and the captures are refused.
pub record IsRefused (job : JobWords) (seen : Option Contents) (fault : PlanFault) : Type 0 where
  pub table : List ℕ
  pub captures : List (List ℕ)
  pub inputs : AreInputs job seen table captures
  pub outcome : IsJobOutcome job table captures (Err fault)

-- The journal of the run has more bytes than a journal file may have.
pub record IsJournalTooLong (job : JobWords) (seen : Option Contents) (size : ℕ) : Type 0 where
  pub words : RunWords
  pub is_run : job ≡ run words
  pub wanted : words.journal ≡ true
  pub table : List ℕ
  pub captures : List (List ℕ)
  pub inputs : AreInputs job seen table captures
  pub longer : IsLongJournal (decision_named words.scheduler) words.settings table captures size

-- The packets file of the run has more bytes than it may have, and the job is not long. A journal that is wanted has not.
pub record IsPacketsTooLong (job : JobWords) (seen : Option Contents) (size : ℕ) : Type 0 where
  pub words : RunWords
  pub is_run : job ≡ run words
  pub wanted : words.packets ≡ true
  pub table : List ℕ
  pub captures : List (List ℕ)
  pub inputs : AreInputs job seen table captures
  pub longer : IsLongPackets (decision_named words.scheduler) words.settings table captures size
  pub journal_fits : JournalFits words table captures

-- The job makes these texts of the bytes of the table and the captures, and of each capture one of an output.
pub record IsMade (job : JobWords) (seen : Option Contents) (texts : Texts) : Type 0 where
  pub table : List ℕ
  pub captures : List (List ℕ)
  pub inputs : AreInputs job seen table captures
  pub outcome : IsJobOutcome job table captures (Ok texts)
  pub count : length texts.outputs ≡ length captures

-- All texts were made and written, in order, and nothing else changed.
pub record IsDone (job : JobWords) (old new : Option Contents) : Type 0 where
  pub texts : Texts
  pub made : IsMade job old texts
  pub written : new ≡ option_map (put_texts job texts) old
  pub holds : IfSome old (λ c. IfSome new (HoldsTexts job texts c))

-- A call on a file was refused: the files before it are whole, and the later ones as before.
pub record StopsAtFile (job : JobWords) (texts : Texts) (place : ℕ) (old : Option Contents) (was now : Place → ℕ) (new : Option Contents) : Type 0 where
  pub within : place < length (files_of job texts)
  pub stops : StopsAt (slice_index_or (files_of job texts) place nameless) was now (option_map (put_files (take place (files_of job texts))) old) new

-- A call on standard output was refused: all files are whole, and a first part of the summary was given to it.
pub record StopsAtOut (job : JobWords) (texts : Texts) (old : Option Contents) (was now : Place → ℕ) (new : Option Contents) : Type 0 where
  pub rose : Rose (was ToOut) (now ToOut)
  pub given : ℕ
  pub new_is : new ≡ option_map (λ c. append_out (take given texts.summary) (put_files (files_of job texts) c)) old

-- a call on what was being written was refused
abbrev pub StopsWriting : JobWords → Texts → Written → Option Contents → (Place → ℕ) → (Place → ℕ) → Option Contents → Type 0
StopsWriting job texts (Output port) old was now new = (port < length texts.outputs) × StopsAtFile job texts port old was now new
StopsWriting job texts Report old was now new = StopsAtFile job texts (length texts.outputs) old was now new
StopsWriting job texts Journal old was now new = (is_some texts.journal ≡ true) × StopsAtFile job texts (length texts.outputs + 1) old was now new
StopsWriting job texts Packets old was now new = StopsAtFile job texts (packets_place (length texts.outputs) (is_some texts.journal)) old was now new
StopsWriting job texts StandardOutput old was now new = StopsAtOut job texts old was now new

-- The texts were made, and a call that wrote them was refused.
pub record IsWriteFault (job : JobWords) (old : Option Contents) (was now : Place → ℕ) (new : Option Contents) (written : Written) : Type 0 where
  pub texts : Texts
  pub made : IsMade job old texts
  pub stops : StopsWriting job texts written old was now new

-- The words name a file to check and a scheduler, and the file's check by that scheduler ends so.
pub record IsCheck (job : JobWords) (old : Option Contents) (was now : Place → ℕ) (new : Option Contents) (ending : CheckEnding) : Type 0 where
  pub words : CheckWords
  pub is_check : job ≡ check words
  pub means : MeansCheck (decision_named words.scheduler) words.file old new was now ending

-- why a command stops before its end, and what it has made of the contents by then; or how a check ends
abbrev pub Stops : JobWords → Option Contents → (Place → ℕ) → (Place → ℕ) → Option Contents → Ending → Type 0
Stops job old was now new Done = ⊥
Stops job old was now new Usage = ⊥
Stops job old was now new (ReadFault input) = IsReadFault job old was now input × (new ≡ old)
Stops job old was now new (TooLong input) = IsFirstTooLong job old input × (new ≡ old)
Stops job old was now new (Refused fault) = IsRefused job old fault × (new ≡ old)
Stops job old was now new (JournalTooLong size) = IsJournalTooLong job old size × (new ≡ old)
Stops job old was now new (PacketsTooLong size) = IsPacketsTooLong job old size × (new ≡ old)
Stops job old was now new OutOfMemory = new ≡ old
Stops job old was now new (WriteFault written) = IsWriteFault job old was now new written
Stops job old was now new (Checked ending) = IsCheck job old was now new ending

-- A job stopped, or a check ended, and then its line was given to standard error. Yes has no line.
pub record IsStopped (c : Command) (ending : Ending) : Type 0 where
  pub job : JobWords
  pub seen : Option Contents
  pub words : c.job ≡ Some job
  pub stops : Stops job c.old c.was c.now seen ending
  pub line : GivesLine (line_of job ending) seen c.new (c.was ToErr) (c.now ToErr)

-- what each ending means
abbrev pub Means : Command → Ending → Type 0
Means c Done = (job : JobWords) × (c.job ≡ Some job) × IsDone job c.old c.new
Means c Usage = (c.job ≡ None) × GivesLine usage_line c.old c.new (c.was ToErr) (c.now ToErr)
Means c (ReadFault input) = IsStopped c (ReadFault input)
Means c (TooLong input) = IsStopped c (TooLong input)
Means c (Refused fault) = IsStopped c (Refused fault)
Means c (JournalTooLong size) = IsStopped c (JournalTooLong size)
Means c (PacketsTooLong size) = IsStopped c (PacketsTooLong size)
Means c OutOfMemory = GivesLine memory_line c.old c.new (c.was ToErr) (c.now ToErr)
Means c (WriteFault written) = IsStopped c (WriteFault written)
Means c (Checked ending) = IsStopped c (Checked ending)
