-- The bytes of a job's table and captures: those of the files that it names, or those that `gen` makes.
use Rattle.std.specs.Prelude.{◌≡◌, ◌≤◌, ℕ, Bool, List, map, take, length, Option, Some, All, IfSome}
use Rattle.outside.specs.Contents.{Contents}
use Rattle.outside.specs.WholeFiles.{Fits, IsLongerThan}
use Rattle.rotating_pick.specs.declared.limits.TheConstants.{MAX_FILE_BYTES}
use Rattle.switch_words.specs.Reading.{JobWords, run, gen, check, firm}
use Rattle.switch_plan.specs.Made.{made_table, made_captures}
use Rattle.job_files.specs.Jobs.{ReadWords, run_reads, firm_reads, input_name, capture_bytes, most_bytes}
use Rattle.job_files.specs.declared.inputs.InputFile.{InputFile}
use Rattle.job_files.specs.declared.inputs.InputFile.TheVariants.{Table, Capture}

-- the file is there, and has more bytes than it may have in this job
abbrev pub IsTooLongFor : ReadWords → InputFile → Contents → Type 0
IsTooLongFor r input c = IsLongerThan (most_bytes r input) c (input_name r input)

-- the files that are read before this one are there, and not too long
abbrev pub EarlierFit : ReadWords → InputFile → Contents → Type 0
EarlierFit r Table c = Unit {0}
EarlierFit r (Capture port) c = Fits MAX_FILE_BYTES c r.table × All (Fits (capture_bytes r.long) c) (take port r.inputs)

-- These are the bytes of the captures of these names, in order; none is too long for such a job. Where contents are seen,
-- the files hold them.
pub record CapturesRead (long : Bool) (names : List (List ℕ)) (seen : Option Contents) (captures : List (List ℕ)) : Type 0 where
  pub count : length captures ≡ length names
  pub fit : All (λ bytes. length bytes ≤ capture_bytes long) captures
  pub there : IfSome seen (λ c. map (λ name. c.file name) names ≡ map (λ bytes. Some bytes) captures)

-- These are the bytes of the table and of each capture, in order; none is too long. Where contents are seen, the files hold them.
pub record AreFilesRead (r : ReadWords) (seen : Option Contents) (table : List ℕ) (captures : List (List ℕ)) : Type 0 where
  pub table_fits : length table ≤ MAX_FILE_BYTES
  pub table_there : IfSome seen (λ c. c.file r.table ≡ Some table)
  pub captures_read : CapturesRead r.long r.inputs seen captures

-- these are the bytes of a job's table and captures
abbrev pub AreInputs : JobWords → Option Contents → List ℕ → List (List ℕ) → Type 0
AreInputs (run r) seen table captures = AreFilesRead (run_reads r) seen table captures
AreInputs (gen g) seen table captures = (table ≡ made_table g.ports) × (captures ≡ made_captures g)
AreInputs (check c) seen table captures = ⊥
AreInputs (firm f) seen table captures = AreFilesRead (firm_reads f) seen table captures
