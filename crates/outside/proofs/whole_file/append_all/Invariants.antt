use Rattle.std.proofs.Common.{◌≡◌, ◌≤◌, length, ◌-◌, take, true}
use Rattle.std.specs.Prelude.{option_map, IfSome}
use Rattle.outside.specs.Contents.{Contents, NoneRead, append_file}
use Rattle.outside.specs.Faults.{NeverFall, NoneRose}
use Rattle.outside.proofs.whole_file.append_all.Given as goal

abbrev pub invariant-loop-at : goal.invariant-loop-at
invariant-loop-at g l =
    let counts = g.F.Files.faults in
    record {
      seen : (c : Contents) → g.F.Files.seen c l.files ≡ option_map (append_file l.name (take l.at l.bytes)) (g.F.Files.seen c l.fn.files);
      own : NoneRead g.F.Files.seen l.fn.files l.files;
      no_fault : NoneRose (counts l.fn.files) (counts l.files);
      never_fall : NeverFall (counts l.fn.files) (counts l.files);
      within : l.at ≤ length l.bytes;
      begun : (c : Contents) → IfSome (g.F.Files.seen c l.files) (λ d. d.begun l.name ≡ true);
    }

abbrev pub decreases-loop-at : goal.decreases-loop-at
decreases-loop-at g l = length l.bytes - l.at
