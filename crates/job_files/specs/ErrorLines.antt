-- The lines on standard error.
use Rattle.std.specs.Prelude.{ℕ, List, [], ◌∷◌, ◌++◌, codes, decimal}
use Rattle.std.specs.List.{concat}
use Rattle.journal_check.specs.declared.verdict.Reason.{Reason}
use Rattle.journal_check.specs.declared.verdict.Reason.TheVariants.{AfterEnd, More, Keeps, NoEnd}
use Rattle.journal_check.specs.declared.verdict.Reason.TheVariants as reason
use Rattle.job_files.specs.declared.check_ending.CheckEnding.{CheckEnding}
use Rattle.job_files.specs.declared.check_ending.CheckEnding.TheVariants as check_ending
use Rattle.switch_words.specs.Reading.{JobWords, run, gen, check, firm}
use Rattle.job_files.specs.Jobs.{input_name, run_reads, firm_reads}
use Rattle.job_files.specs.OutputFiles.{output_name, report_name, journal_name, packets_name}
use Rattle.job_files.specs.RefusalLines.{memory_line, refusal_line}
use Rattle.job_files.specs.declared.inputs.InputFile.{InputFile}
use Rattle.job_files.specs.declared.ending.Written.{Written}
use Rattle.job_files.specs.declared.ending.Written.TheVariants.{Output, Report, Journal, Packets, StandardOutput}
use Rattle.job_files.specs.declared.ending.Ending.{Ending}
use Rattle.job_files.specs.declared.ending.Ending.TheVariants.{Done, Usage, ReadFault, TooLong, Refused, JournalTooLong, PacketsTooLong, OutOfMemory}
use Rattle.job_files.specs.declared.ending.Ending.TheVariants.{WriteFault, Checked}

-- the line where the words are not those of a job
abbrev pub usage_line : List ℕ
usage_line =
    codes "usage: tiny_tera run [options] TABLE PREFIX INPUT.. or tiny_tera gen [options] SEED COUNT PORTS "
    ++ codes "or tiny_tera check FILE or tiny_tera firm [options] TABLE INPUT..\n"

-- the line for what is named
abbrev pub named_line : List ℕ → List ℕ → List ℕ
named_line what name = concat (what ∷ name ∷ codes "\n" ∷ [])

-- the name of a file that a job reads; `gen` and `check` read no table and no captures
abbrev pub name_read : JobWords → InputFile → List ℕ
name_read (run r) input = input_name (run_reads r) input
name_read (gen g) input = []
name_read (check c) input = []
name_read (firm f) input = input_name (firm_reads f) input

-- the name of what a run writes
abbrev pub name_in_run : List ℕ → Written → List ℕ
name_in_run prefix (Output port) = output_name prefix port
name_in_run prefix Report = report_name prefix
name_in_run prefix Journal = journal_name prefix
name_in_run prefix Packets = packets_name prefix
name_in_run prefix StandardOutput = codes "standard output"

-- the name of what is written where there are no files
abbrev pub name_without_files : Written → List ℕ
name_without_files (Output port) = []
name_without_files Report = []
name_without_files Journal = []
name_without_files Packets = []
name_without_files StandardOutput = codes "standard output"

-- the name of what a job writes; only `run` writes files
abbrev pub name_written : JobWords → Written → List ℕ
name_written (run r) written = name_in_run r.prefix written
name_written (gen g) written = name_without_files written
name_written (check c) written = name_without_files written
name_written (firm f) written = name_without_files written

-- the line where a journal has more bytes than a journal file may have
abbrev pub journal_line : ℕ → List ℕ
journal_line size = concat (codes "journal too long: " ∷ decimal size ∷ codes "\n" ∷ [])

-- and where a packets file has more bytes than it may have
abbrev pub packets_line : ℕ → List ℕ
packets_line size = concat (codes "packets too long: " ∷ decimal size ∷ codes "\n" ∷ [])

-- the parts of a line that say why a journal is not lawful
abbrev pub reason_parts : Reason → List (List ℕ)
reason_parts AfterEnd = codes " after end" ∷ []
reason_parts (More card) = codes " more of card " ∷ decimal card ∷ []
reason_parts (Keeps card) = codes " keeps of card " ∷ decimal card ∷ []
reason_parts (reason.Output output) = codes " output " ∷ decimal output ∷ []
reason_parts NoEnd = codes " no end" ∷ []

-- the line of each ending of a check; yes has none
abbrev pub check_line : List ℕ → CheckEnding → List ℕ
check_line file check_ending.Yes = []
check_line file (check_ending.No slot why) = concat (codes "no: slot " ∷ decimal slot ∷ (reason_parts why ++ codes "\n" ∷ []))
check_line file (check_ending.Bad at) = concat (codes "journal: bad at " ∷ decimal at ∷ codes "\n" ∷ [])
check_line file check_ending.TooLong = named_line (codes "too long: ") file
check_line file check_ending.ReadFault = named_line (codes "read fault: ") file
check_line file check_ending.OutOfMemory = memory_line
check_line file check_ending.OutFault = named_line (codes "write fault: ") (codes "standard output")

-- the line of a check, which the words of `check` name
abbrev pub checked_line : JobWords → CheckEnding → List ℕ
checked_line (run r) ending = []
checked_line (gen g) ending = []
checked_line (check c) ending = check_line c.file ending
checked_line (firm f) ending = []

-- the line of each ending
abbrev pub line_of : JobWords → Ending → List ℕ
line_of job Done = []
line_of job Usage = usage_line
line_of job (ReadFault input) = named_line (codes "read fault: ") (name_read job input)
line_of job (TooLong input) = named_line (codes "too long: ") (name_read job input)
line_of job (Refused fault) = refusal_line fault
line_of job (JournalTooLong size) = journal_line size
line_of job (PacketsTooLong size) = packets_line size
line_of job OutOfMemory = memory_line
line_of job (WriteFault written) = named_line (codes "write fault: ") (name_written job written)
line_of job (Checked ending) = checked_line job ending
