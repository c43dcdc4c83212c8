-- The exit status of each way in which a command ends, and which refused calls end it so.
use Rattle.std.specs.Prelude.{◌≡◌, ◌<◌, ℕ, Bool}
use Rattle.outside.specs.Faults.{Place, ReadOf, BeginOf, WriteOf, ToOut, ToErr, of_none, of_reads, of_writes}
use Rattle.job_files.specs.Checks as Checks
use Rattle.job_files.specs.declared.check_ending.CheckEnding.{CheckEnding}
use Rattle.job_files.specs.declared.check_ending.CheckEnding.TheVariants as check_ending
use Rattle.job_files.specs.declared.ending.Ending.{Ending}
use Rattle.job_files.specs.declared.ending.Ending.TheVariants.{Done, Usage, ReadFault, TooLong, Refused, JournalTooLong, PacketsTooLong, OutOfMemory}
use Rattle.job_files.specs.declared.ending.Ending.TheVariants.{WriteFault, Checked}

-- the exit status of each ending of a check
abbrev pub check_status : CheckEnding → ℕ
check_status check_ending.Yes = 0
check_status (check_ending.No slot reason) = 7
check_status (check_ending.Bad at) = 4
check_status check_ending.TooLong = 4
check_status check_ending.ReadFault = 3
check_status check_ending.OutOfMemory = 5
check_status check_ending.OutFault = 6

-- the exit status of each ending
abbrev pub status_of : Ending → ℕ
status_of Done = 0
status_of Usage = 2
status_of (ReadFault input) = 3
status_of (TooLong input) = 4
status_of (Refused fault) = 4
status_of (JournalTooLong size) = 4
status_of (PacketsTooLong size) = 4
status_of OutOfMemory = 5
status_of (WriteFault written) = 6
status_of (Checked ending) = check_status ending

-- of which calls one was refused where a command ends so
abbrev pub refused_by : Ending → Place → Bool
refused_by Done = of_none
refused_by Usage = of_none
refused_by (ReadFault input) = of_reads
refused_by (TooLong input) = of_none
refused_by (Refused fault) = of_none
refused_by (JournalTooLong size) = of_none
refused_by (PacketsTooLong size) = of_none
refused_by OutOfMemory = of_none
refused_by (WriteFault written) = of_writes
refused_by (Checked ending) = Checks.refused_by ending

-- the status is that at which a command ends after a refused call of this kind; one on standard error ends none
abbrev pub EndsAt : Place → ℕ → Type 0
EndsAt (ReadOf name) status = status ≡ 3
EndsAt (BeginOf name) status = status ≡ 6
EndsAt (WriteOf name) status = status ≡ 6
EndsAt ToOut status = status ≡ 6
EndsAt ToErr status = Unit {0}

-- where a count of refused calls rose, the status is theirs
abbrev pub RefusedCallsEnd : (Place → ℕ) → (Place → ℕ) → ℕ → Type 0
RefusedCallsEnd was now status = (p : Place) → was p < now p → EndsAt p status
