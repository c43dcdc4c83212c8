-- What a job writes: the file of each output, the report, the journal and the packets file, and then the summary to standard output.
use Rattle.std.specs.Prelude.{◌≡◌, ◌≢◌, ◌+◌, ◌<◌, ℕ, Bool, if◌then◌else◌, List, [], ◌∷◌, ◌++◌, length, slice_index_or, Option, Some, None, All, codes}
use Rattle.std.specs.Prelude.{decimal, string_bytes}
use Rattle.std.specs.List.{fold}
use Rattle.outside.specs.Contents.{Contents, append_out}
use Rattle.outside.specs.WholeFiles.{NamedBytes, put_file}
use Rattle.switch_words.specs.Reading.{JobWords, run, gen, check, firm, RunWords}
use Rattle.job_files.specs.declared.output_files.OutputFile.{OutputFile}

-- The texts that a job makes: the capture of each output, the report, the journal and the packets file where they are
-- wanted, and the summary.
pub record Texts : Type 0 where
  pub outputs : List (List ℕ)
  pub report : List ℕ
  pub journal : Option (List ℕ)
  pub packets : Option (List ℕ)
  pub summary : List ℕ

-- no name and no bytes
abbrev pub nameless : NamedBytes
nameless = record { name = []; bytes = [] }

-- the name and the bytes of a file that a job writes
abbrev pub shown : OutputFile → NamedBytes
shown f = record { name = string_bytes f.name; bytes = f.bytes.items }

-- the name of the file of output j: `PREFIX.j.pcap`
abbrev pub output_name : List ℕ → ℕ → List ℕ
output_name prefix j = prefix ++ (codes "." ++ (decimal j ++ codes ".pcap"))

-- and of the report: `PREFIX.report`
abbrev pub report_name : List ℕ → List ℕ
report_name prefix = prefix ++ codes ".report"

-- and of the journal: `PREFIX.journal`
abbrev pub journal_name : List ℕ → List ℕ
journal_name prefix = prefix ++ codes ".journal"

-- and of the packets file: `PREFIX.packets.csv`
abbrev pub packets_name : List ℕ → List ℕ
packets_name prefix = prefix ++ codes ".packets.csv"

-- the files of the outputs from output j on, in order
abbrev pub files_from : List ℕ → ℕ → List (List ℕ) → List NamedBytes
files_from prefix j [] = []
files_from prefix j (bytes ∷ more) = record { name = output_name prefix j; bytes = bytes } ∷ files_from prefix (j + 1) more

-- the file of the journal, where there is one
abbrev pub journal_files : List ℕ → Option (List ℕ) → List NamedBytes
journal_files prefix None = []
journal_files prefix (Some bytes) = record { name = journal_name prefix; bytes = bytes } ∷ []

-- the packets file, where there is one
abbrev pub packets_files : List ℕ → Option (List ℕ) → List NamedBytes
packets_files prefix None = []
packets_files prefix (Some bytes) = record { name = packets_name prefix; bytes = bytes } ∷ []

-- the files of these bytes, in order: the outputs, then the report, then the journal where there is one, and then the
-- packets file where there is one
abbrev pub files_in_order : List ℕ → List (List ℕ) → List ℕ → Option (List ℕ) → Option (List ℕ) → List NamedBytes
files_in_order prefix outputs report journal packets =
    files_from prefix 0 outputs ++ record { name = report_name prefix; bytes = report } ∷ (journal_files prefix journal ++ packets_files prefix packets)

-- the files of a run, in this order
abbrev pub run_files : List ℕ → Texts → List NamedBytes
run_files prefix texts = files_in_order prefix texts.outputs texts.report texts.journal texts.packets

-- the place of the packets file, after so many outputs: the report stands between, and the journal where there is one
abbrev pub packets_place : ℕ → Bool → ℕ
packets_place outputs with_journal = outputs + 1 + (if with_journal then 1 else 0)

-- the files that a job writes, in order: none except for `run`
abbrev pub files_of : JobWords → Texts → List NamedBytes
files_of (run r) texts = run_files r.prefix texts
files_of (gen g) texts = []
files_of (check c) texts = []
files_of (firm f) texts = []

-- the files are put, one after the other
abbrev pub put_files : List NamedBytes → Contents → Contents
put_files files c = fold put_file c files

-- all files are put, and then the summary is given to standard output
abbrev pub put_texts : JobWords → Texts → Contents → Contents
put_texts job texts c = append_out texts.summary (put_files (files_of job texts) c)

-- Each output of a run stands whole in the file of its number, and the report, the journal and the packets file in theirs;
-- every other file holds what it held. Standard output was given the summary, and standard error nothing.
pub record HoldsTexts (job : JobWords) (texts : Texts) (before after : Contents) : Type 0 where
  pub outputs : (r : RunWords) (j : ℕ) → job ≡ run r → j < length texts.outputs → after.file (output_name r.prefix j) ≡ Some (slice_index_or texts.outputs j [])
  pub report : (r : RunWords) → job ≡ run r → after.file (report_name r.prefix) ≡ Some texts.report
  pub journal : (r : RunWords) (bytes : List ℕ) → job ≡ run r → texts.journal ≡ Some bytes → after.file (journal_name r.prefix) ≡ Some bytes
  pub packets : (r : RunWords) (bytes : List ℕ) → job ≡ run r → texts.packets ≡ Some bytes → after.file (packets_name r.prefix) ≡ Some bytes
  pub others : (name : List ℕ) → All (λ file. file.name ≢ name) (files_of job texts) → after.file name ≡ before.file name
  pub out : after.out ≡ before.out ++ texts.summary
  pub err : after.err ≡ before.err
