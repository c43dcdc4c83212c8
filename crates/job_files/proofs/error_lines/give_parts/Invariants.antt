use Rattle.std.proofs.Common.{◌≡◌, map, take}
use Rattle.std.specs.Prelude.{option_map}
use Rattle.std.specs.List.{concat}
use Rattle.outside.specs.Contents.{Contents, NoneRead, append_err}
use Rattle.outside.specs.Faults.{NeverFall, OnlyRose, of_err}
use Rattle.job_files.specs.LineParts.{part_text}
use Rattle.job_files.proofs.error_lines.give_parts.Given as goal

abbrev pub invariant-loop-part : goal.invariant-loop-part
invariant-loop-part g l =
    let see = g.F.Files.seen in
    let counts = g.F.Files.faults in
    record {
      seen : (c : Contents) → see c l.files ≡ option_map (append_err (concat (map part_text (take l.part-index l.parts)))) (see c l.fn.files);
      own : NoneRead see l.fn.files l.files;
      no_others : OnlyRose of_err (counts l.fn.files) (counts l.files);
      never_fall : NeverFall (counts l.fn.files) (counts l.files);
    }
