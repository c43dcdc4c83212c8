use Rattle.std.proofs.Common.{◌≡◌, map, take}
use Rattle.std.specs.Prelude.{option_map}
use Rattle.outside.specs.Contents.{Contents, NoneRead}
use Rattle.outside.specs.Faults.{NeverFall, NoneRose}
use Rattle.job_files.specs.OutputFiles.{put_files, shown}
use Rattle.job_files.proofs.output_files.put_all.Given as goal

abbrev pub invariant-loop-place : goal.invariant-loop-place
invariant-loop-place g l =
    let see = g.F.Files.seen in
    let counts = g.F.Files.faults in
    record {
      seen : (c : Contents) → see c l.files ≡ option_map (put_files (take l.place (map shown l.output_files))) (see c l.fn.files);
      own : NoneRead see l.fn.files l.files;
      no_fault : NoneRose (counts l.fn.files) (counts l.files);
      never_fall : NeverFall (counts l.fn.files) (counts l.files);
    }
