-- Why the files of a job are not read, over more calls than those that read them.
use Rattle.std.proofs.Common.{ℕ, Option}
use Rattle.outside.specs.Contents.{Contents}
use Rattle.outside.specs.Faults.{Place, ReadOf, NeverFall}
use Rattle.outside.proofs.Counting.{NeverFall-Rose}
use Rattle.job_files.specs.Jobs.{ReadWords, input_name}
use Rattle.job_files.specs.FileSteps.{StopsReading}
use Rattle.job_files.specs.declared.ending.Ending.{Ending}
use Rattle.job_files.specs.declared.ending.Ending.TheVariants.{Done, Usage, ReadFault, TooLong, Refused, JournalTooLong, PacketsTooLong, OutOfMemory}
use Rattle.job_files.specs.declared.ending.Ending.TheVariants.{WriteFault, Checked}

-- after calls that came before
pub StopsReading-since : (r : ReadWords) (old : Option Contents) (was mid now : Place → ℕ) (ending : Ending) → NeverFall was mid
    → StopsReading r old mid now ending → StopsReading r old was now ending
StopsReading-since r old was mid now Done kept stops = stops
StopsReading-since r old was mid now Usage kept stops = stops
StopsReading-since r old was mid now (ReadFault input) kept stops =
    (stops.0, stops.1, NeverFall-Rose was mid now (ReadOf (input_name r input)) kept stops.2)
StopsReading-since r old was mid now (TooLong input) kept stops = stops
StopsReading-since r old was mid now (Refused fault) kept stops = stops
StopsReading-since r old was mid now (JournalTooLong size) kept stops = stops
StopsReading-since r old was mid now (PacketsTooLong size) kept stops = stops
StopsReading-since r old was mid now OutOfMemory kept stops = stops
StopsReading-since r old was mid now (WriteFault written) kept stops = stops
StopsReading-since r old was mid now (Checked ending) kept stops = stops
