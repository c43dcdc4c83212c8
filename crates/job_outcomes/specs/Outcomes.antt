-- What becomes of the words and the bytes that a job is given.
use Rattle.std.specs.Prelude.{◌≡◌, ◌<◌, ◌^◌, ℕ, true, List, length, All, None, Ok, Err, Some}
use Rattle.switch_words.specs.Reading.{JobWords, run, gen, check, firm, reading_of}
use Rattle.switch_plan.specs.declared.fault.PlanFault.{PlanFault}
use Rattle.named_schedulers.specs.Named.{decision_named}
use Rattle.job_files.specs.Inputs.{AreInputs}
use Rattle.job_files.specs.OutputFiles.{Texts}
use Rattle.switch_run.specs.Switched.{IsJobOutcome, IsLongJournal, IsLongPackets, JournalFits}

-- a list of bytes
abbrev pub AreBytes : List ℕ → Type 0
AreBytes file = All (λ byte. byte < 256) file

-- What a job can be given: its words mean it, it has as many captures as these name, neither they nor the table are longer
-- than it takes, and the captures are bytes. (A `check` has no table; so it is given nothing.)
pub record IsGiven (words : List (List ℕ)) (job : JobWords) (table : List ℕ) (captures : List (List ℕ)) : Type 0 where
  pub words_mean : reading_of words ≡ Some job
  pub inputs : AreInputs job None table captures
  pub bytes : All AreBytes captures

-- the journal that the job wants would have this many bytes, which are too many
abbrev pub HasLongJournal : JobWords → List ℕ → List (List ℕ) → ℕ → Type 0
HasLongJournal (run r) table captures size =
    (r.journal ≡ true) × IsLongJournal (decision_named r.scheduler) r.settings table captures size
HasLongJournal (gen g) table captures size = ⊥
HasLongJournal (check c) table captures size = ⊥
HasLongJournal (firm f) table captures size = ⊥

-- the packets file that the job wants would have this many, and its journal, if it wants one, has not too many
abbrev pub HasLongPackets : JobWords → List ℕ → List (List ℕ) → ℕ → Type 0
HasLongPackets (run r) table captures size =
    (r.packets ≡ true) × JournalFits r table captures × IsLongPackets (decision_named r.scheduler) r.settings table captures size
HasLongPackets (gen g) table captures size = ⊥
HasLongPackets (check c) table captures size = ⊥
HasLongPackets (firm f) table captures size = ⊥

-- what can become of a job: texts, the first cause for which it is refused, or a file of so many bytes that is too long
pub data Outcome : Type 0 where
  Made : Texts → Outcome
  Refused : PlanFault → Outcome
  JournalTooLong : ℕ → Outcome
  PacketsTooLong : ℕ → Outcome

-- this becomes of a job that is given this table and these captures
abbrev pub IsOutcome : JobWords → List ℕ → List (List ℕ) → Outcome → Type 0
IsOutcome job table captures (Made texts) = IsJobOutcome job table captures (Ok texts)
IsOutcome job table captures (Refused fault) = IsJobOutcome job table captures (Err fault)
IsOutcome job table captures (JournalTooLong size) = HasLongJournal job table captures size
IsOutcome job table captures (PacketsTooLong size) = HasLongPackets job table captures size

-- one of these becomes of the job, and no other
pub record HasOneOutcome (job : JobWords) (table : List ℕ) (captures : List (List ℕ)) : Type 0 where
  pub outcome : Outcome
  pub is : IsOutcome job table captures outcome
  pub only : (other : Outcome) → IsOutcome job table captures other → other ≡ outcome

-- a file that can be read as a capture, of a long job at least: bytes, fewer than 2^32 of them
pub record IsByteFile (file : List ℕ) : Type 0 where
  pub bytes : AreBytes file
  pub short : length file < 2 ^ 32
