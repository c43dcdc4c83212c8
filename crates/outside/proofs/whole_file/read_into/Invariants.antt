use Rattle.std.proofs.Common.{◌≤◌, length, ◌-◌}
use Rattle.std.specs.Prelude.{IfSome}
use Rattle.outside.specs.Contents.{Contents, NoneChanged, OnlyRead}
use Rattle.outside.specs.Faults.{NeverFall, NoneRose}
use Rattle.outside.proofs.Fronts.{IsFrontOf}
use Rattle.outside.proofs.whole_file.read_into.Given as goal

abbrev pub invariant-loop-count : goal.invariant-loop-count
invariant-loop-count g l =
    let counts = g.F.Files.faults in
    record {
      seen : NoneChanged g.F.Files.seen l.fn.files l.files;
      own : OnlyRead l.name g.F.Files.seen l.fn.files l.files;
      no_fault : NoneRose (counts l.fn.files) (counts l.files);
      never_fall : NeverFall (counts l.fn.files) (counts l.files);
      most : length l.bytes.items ≤ l.limit;
      front : (c : Contents) → IfSome (g.F.Files.seen c l.files) (λ d. IsFrontOf (d.file l.name) l.bytes.items);
    }

abbrev pub decreases-loop-count : goal.decreases-loop-count
decreases-loop-count g l = l.limit - length l.bytes.items
