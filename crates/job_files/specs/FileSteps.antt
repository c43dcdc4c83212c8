-- Why the reading or the writing of a job's files stops: the words of the calls inside.
use Rattle.std.specs.Prelude.{◌≡◌, ◌<◌, ◌≤◌, ℕ, ◌^◌, ◌==◌, nat_lt, if◌then◌else◌, List, [], ◌∷◌, ◌++◌, take, length, map, All, Option, None, Some}
use Rattle.std.specs.Prelude.{IfSome, option_map, slice_index_or, string_bytes}
use Rattle.rotating_pick.specs.declared.limits.TheConstants.{MAX_PORTS, MAX_FILE_BYTES}
use Rattle.outside.specs.Contents.{Contents, append_out}
use Rattle.outside.specs.Faults.{Place, ReadOf, ToOut, Rose}
use Rattle.outside.specs.WholeFiles.{NamedBytes, StopsAt}
use Rattle.switch_words.specs.Limits.{IsUpTo}
use Rattle.job_files.specs.Jobs.{ReadWords, input_name, IsInput}
use Rattle.job_files.specs.Inputs.{EarlierFit, IsTooLongFor}
use Rattle.job_files.specs.OutputFiles.{files_from, journal_files, nameless, put_files, report_name, shown}
use Rattle.job_files.specs.declared.inputs.Reads.{Reads}
use Rattle.job_files.specs.declared.output_files.JobTexts.{JobTexts}
use Rattle.job_files.specs.declared.pieces.PiecedFile.{PiecedFile}
use Rattle.job_files.specs.declared.ending.Written.{Written}
use Rattle.job_files.specs.declared.ending.Written.TheVariants.{Output, Report, Journal, Packets, StandardOutput}
use Rattle.job_files.specs.declared.ending.Ending.{Ending}
use Rattle.job_files.specs.declared.ending.Ending.TheVariants.{ReadFault, TooLong, OutOfMemory}

-- a table and captures that no limit of files or ports refuses, whatever the job
pub record AreOfSize (table : List ℕ) (captures : List (List ℕ)) : Type 0 where
  pub ports : IsUpTo MAX_PORTS (length captures)
  pub table_fits : length table ≤ MAX_FILE_BYTES
  pub captures_fit : All (λ bytes. length bytes < 2 ^ 32) captures

-- the names of files, as words
abbrev pub reads_words : Reads → ReadWords
reads_words reads = record { table = reads.table.now; inputs = map string_bytes reads.inputs.now; long = reads.long }

-- why the files of these names are not read
abbrev pub StopsReading : ReadWords → Option Contents → (Place → ℕ) → (Place → ℕ) → Ending → Type 0
StopsReading r old was now (ReadFault input) = IsInput r input × IfSome old (EarlierFit r input)
    × Rose (was (ReadOf (input_name r input))) (now (ReadOf (input_name r input)))
StopsReading r old was now (TooLong input) = IsInput r input × IfSome old (EarlierFit r input) × IfSome old (IsTooLongFor r input)
StopsReading r old was now OutOfMemory = Unit {0}
StopsReading r old was now _ = ⊥

-- the files of a run before its packets file, in order
abbrev pub files_before : List ℕ → List (List ℕ) → List ℕ → Option (List ℕ) → List NamedBytes
files_before prefix outputs report journal = files_from prefix 0 outputs ++ record { name = report_name prefix; bytes = report } ∷ journal_files prefix journal

-- the file that is written piece by piece, where there is one
abbrev pub pieced : {P : Type 0} → (P → List ℕ) → Option (PiecedFile P) → List NamedBytes
pieced left None = []
pieced left (Some file) = record { name = string_bytes file.name; bytes = left file.pieces } ∷ []

-- the files that a job writes, in order
abbrev pub all_shown : {P : Type 0} → (P → List ℕ) → JobTexts P → List NamedBytes
all_shown left texts = map shown texts.files.items ++ pieced left texts.packets

-- what is written at a place among the files before the packets file, after so many outputs
abbrev pub written_at : ℕ → ℕ → Written
written_at place outputs = if nat_lt place outputs then Output place else (if place == outputs then Report else Journal)

-- a call on the file of this place was refused: those before it are whole
pub record StopsAtPlace (files : List NamedBytes) (place : ℕ) (old : Option Contents) (was now : Place → ℕ) (new : Option Contents) : Type 0 where
  pub within : place < length files
  pub stops : StopsAt (slice_index_or files place nameless) was now (option_map (put_files (take place files)) old) new

-- a call on standard output was refused: all files are whole, and a first part of the text was given to it
pub record StopsAtEnd (files : List NamedBytes) (text : List ℕ) (old : Option Contents) (was now : Place → ℕ) (new : Option Contents) : Type 0 where
  pub rose : Rose (was ToOut) (now ToOut)
  pub given : ℕ
  pub new_is : new ≡ option_map (λ c. append_out (take given text) (put_files files c)) old

-- A call on one of the files was refused, of which so many are those of outputs and so many come before the packets file, or one on
-- standard output.
abbrev pub StopsPutting : ℕ → ℕ → List NamedBytes → List ℕ → Written → Option Contents → (Place → ℕ) → (Place → ℕ) → Option Contents → Type 0
StopsPutting outputs before files text (Output port) old was now new = (port < outputs) × StopsAtPlace files port old was now new
StopsPutting outputs before files text Report old was now new = StopsAtPlace files outputs old was now new
StopsPutting outputs before files text Journal old was now new =
    (place : ℕ) × (outputs < place) × (place < before) × StopsAtPlace files place old was now new
StopsPutting outputs before files text Packets old was now new = StopsAtPlace files before old was now new
StopsPutting outputs before files text StandardOutput old was now new = StopsAtEnd files text old was now new
