use Rattle.std.proofs.Common.{◌≡◌, map, take}
use Rattle.std.specs.Prelude.{option_map}
use Rattle.std.specs.List.{concat}
use Rattle.outside.specs.Contents.{Contents, append_err}
use Rattle.outside.specs.Faults.{NeverFall}
use Rattle.simulation_command.proofs.error_lines.give_parts.Given as goal

abbrev pub invariant-loop-part : goal.invariant-loop-part
invariant-loop-part g l =
    let counts = g.F.Files.faults in
    record {
      seen : (c : Contents) → g.F.Files.seen c l.files
          ≡ option_map (append_err (concat (map (λ part. part.now) (take l.part-index l.parts)))) (g.F.Files.seen c l.fn.files);
      never_fall : NeverFall (counts l.fn.files) (counts l.files);
    }
