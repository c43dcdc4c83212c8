-- What the words of a job say, whichever its command is.
use Rattle.std.specs.Prelude.{◌≡◌, ℕ, ◌<◌, Bool, true, false, List, [], length, slice_index_or, Option, Some, None, All}
use Rattle.rotating_pick.specs.declared.limits.TheConstants.{MAX_FILE_BYTES}
use Rattle.switch_words.specs.declared.job.Speed.TheVariants.{Untimed}
use Rattle.switch_words.specs.declared.job.Settings.{Settings}
use Rattle.switch_words.specs.Reading.{JobWords, run, gen, check, firm, RunWords, FirmWords}
use Rattle.switch_plan.specs.Refusals.{Terms, terms_of}
use Rattle.job_files.specs.declared.limits.TheConstants.{MAX_LONG_CAPTURE}
use Rattle.job_files.specs.declared.inputs.InputFile.{InputFile}
use Rattle.job_files.specs.declared.inputs.InputFile.TheVariants.{Table, Capture}

-- what a job's refusal goes by; `check` has nothing to refuse
abbrev pub terms_in : JobWords → Terms
terms_in (run r) = terms_of r.settings
terms_in (gen g) = terms_of g.settings
terms_in (check c) = record { speed = Untimed; long = false }
terms_in (firm f) = terms_of f.settings

-- the same settings except for the number of workers
abbrev pub settings_with : ℕ → Settings → Settings
settings_with workers settings = record settings { workers = workers }

-- the same job except for the number of workers; `check` has none
abbrev pub with_workers : ℕ → JobWords → JobWords
with_workers workers (run r) = run (record r { settings = settings_with workers r.settings })
with_workers workers (gen g) = gen (record g { settings = settings_with workers g.settings })
with_workers workers (check c) = check c
with_workers workers (firm f) = firm (record f { settings = settings_with workers f.settings })

-- the same job with or without the board; it is an option of `run` alone
abbrev pub with_alone : Bool → JobWords → JobWords
with_alone alone (run r) = run (record r { alone = alone })
with_alone alone (gen g) = gen g
with_alone alone (check c) = check c
with_alone alone (firm f) = firm f

-- the same settings, of a long run
abbrev pub long_settings : Settings → Settings
long_settings settings = record settings { long = true }

-- the same job, run long; `gen` and `check` have no long run
abbrev pub with_long : JobWords → JobWords
with_long (run r) = run (record r { settings = long_settings r.settings })
with_long (gen g) = gen g
with_long (check c) = check c
with_long (firm f) = firm (record f { settings = long_settings f.settings })

-- the names of the files that a job reads, the table and the capture of each port, and whether the job is long
pub record ReadWords : Type 0 where
  pub table : List ℕ
  pub inputs : List (List ℕ)
  pub long : Bool

abbrev pub run_reads : RunWords → ReadWords
run_reads r = record { table = r.table; inputs = r.inputs; long = r.settings.long }

abbrev pub firm_reads : FirmWords → ReadWords
firm_reads f = record { table = f.table; inputs = f.inputs; long = f.settings.long }

-- the table and the captures that a job reads: `gen` makes them, and `check` has none
abbrev pub reads_of : JobWords → Option ReadWords
reads_of (run r) = Some (run_reads r)
reads_of (gen g) = None
reads_of (check c) = None
reads_of (firm f) = Some (firm_reads f)

-- the name of a file that a job reads: the table's, or that of the capture of a port
abbrev pub input_name : ReadWords → InputFile → List ℕ
input_name r Table = r.table
input_name r (Capture port) = slice_index_or r.inputs port []

-- the most bytes of a capture, of a long job or another
abbrev pub capture_bytes : Bool → ℕ
capture_bytes true = MAX_LONG_CAPTURE
capture_bytes false = MAX_FILE_BYTES

-- the most bytes of a file that a job reads: the limit of a table is that of each job
abbrev pub most_bytes : ReadWords → InputFile → ℕ
most_bytes r Table = MAX_FILE_BYTES
most_bytes r (Capture port) = capture_bytes r.long

-- the table and each capture have names that are named so
abbrev pub AreNamed : (List ℕ → Bool) → ReadWords → Type 0
AreNamed named r = (named r.table ≡ true) × All (λ name. named name ≡ true) r.inputs

-- there is a port of this number
abbrev pub IsInput : ReadWords → InputFile → Type 0
IsInput r Table = Unit {0}
IsInput r (Capture port) = port < length r.inputs

-- a job that runs a switch: each but `check`
abbrev pub RunsSwitch : JobWords → Type 0
RunsSwitch (run r) = Unit {0}
RunsSwitch (gen g) = Unit {0}
RunsSwitch (check c) = ⊥
RunsSwitch (firm f) = Unit {0}
