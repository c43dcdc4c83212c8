use Rattle.std.proofs.Common.{◌≡◌, ◌<◌, ℕ, List, Bool, true, length, take}
use Rattle.std.specs.Prelude.{All, IfSome}
use Rattle.outside.specs.Contents.{Contents, NoneChanged, StayAlike}
use Rattle.outside.specs.Faults.{NeverFall, NoneRose}
use Rattle.job_files.specs.Inputs.{CapturesRead, EarlierFit}
use Rattle.job_files.specs.FileSteps.{reads_words}
use Rattle.switch_plan.specs.ReadingSteps.{bytes_of_files}
use Rattle.job_files.specs.declared.inputs.InputFile.TheVariants.{Capture}
use Rattle.job_files.proofs.inputs.read_captures.Given as goal

abbrev pub invariant-loop-port : goal.invariant-loop-port
invariant-loop-port g l =
    let see = g.F.Files.seen in
    let counts = g.F.Files.faults in
    record {
      seen : NoneChanged see l.fn.files l.files;
      own : (named : List ℕ → Bool) → All (λ name. named name ≡ true) (reads_words l.reads).inputs → StayAlike named see l.fn.files l.files;
      no_fault : NoneRose (counts l.fn.files) (counts l.files);
      never_fall : NeverFall (counts l.fn.files) (counts l.files);
      room : 0 < length l.buf;
      earlier : (c : Contents) → IfSome (see c l.files) (EarlierFit (reads_words l.reads) (Capture l.port));
      read : (c : Contents) → CapturesRead l.reads.long (take l.port (reads_words l.reads).inputs) (see c l.files) (bytes_of_files l.captures);
    }
