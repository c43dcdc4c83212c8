use Rattle.std.proofs.Common.{◌≡◌, ◌≤◌, length, ◌-◌, take}
use Rattle.std.specs.Prelude.{option_map}
use Rattle.outside.specs.Contents.{Contents, NoneRead, append_err}
use Rattle.outside.specs.Faults.{NeverFall, NoneRose}
use Rattle.job_files.proofs.error_lines.give_bytes.Given as goal

abbrev pub invariant-loop-at : goal.invariant-loop-at
invariant-loop-at g l =
    let see = g.F.Files.seen in
    let counts = g.F.Files.faults in
    record {
      seen : (c : Contents) → see c l.files ≡ option_map (append_err (take l.at l.bytes)) (see c l.fn.files);
      own : NoneRead see l.fn.files l.files;
      no_fault : NoneRose (counts l.fn.files) (counts l.files);
      never_fall : NeverFall (counts l.fn.files) (counts l.files);
      within : l.at ≤ length l.bytes;
    }

abbrev pub decreases-loop-at : goal.decreases-loop-at
decreases-loop-at g l = length l.bytes - l.at
