use Rattle.std.proofs.Common.{◌≡◌, ◌≤◌, length, ◌-◌, take}
use Rattle.std.specs.Prelude.{option_map}
use Rattle.outside.specs.Contents.{Contents, NoneRead, append_out}
use Rattle.outside.specs.Faults.{NeverFall, NoneRose}
use Rattle.outside.proofs.whole_file.put_out.Given as goal

abbrev pub invariant-loop-at : goal.invariant-loop-at
invariant-loop-at g l =
    let counts = g.F.Files.faults in
    record {
      seen : (c : Contents) → g.F.Files.seen c l.files ≡ option_map (append_out (take l.at l.bytes)) (g.F.Files.seen c l.fn.files);
      own : NoneRead g.F.Files.seen l.fn.files l.files;
      no_fault : NoneRose (counts l.fn.files) (counts l.files);
      never_fall : NeverFall (counts l.fn.files) (counts l.files);
      within : l.at ≤ length l.bytes;
    }

abbrev pub decreases-loop-at : goal.decreases-loop-at
decreases-loop-at g l = length l.bytes - l.at
