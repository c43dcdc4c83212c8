use Rattle.std.proofs.Common.{◌≡◌, ◌≤◌, ◌+◌, ◌-◌, ◌++◌, List, ℕ, [], length, true}
use Rattle.std.specs.Prelude.{option_map, IfSome}
use Rattle.outside.specs.Contents.{Contents, NoneRead, append_file}
use Rattle.outside.specs.Faults.{NeverFall, NoneRose}
use Rattle.job_files.proofs.Piecewise.{rest}
use Rattle.job_files.proofs.pieces.append_pieces.Given as goal

abbrev pub invariant-loop-at : goal.invariant-loop-at
invariant-loop-at g l =
    let see = g.F.Files.seen in
    let counts = g.F.Files.faults in
    let left = g.P.Pieces.left in
    record {
      done : List ℕ;
      seen : (c : Contents) → see c l.files ≡ option_map (append_file l.name done) (see c l.fn.files);
      own : NoneRead see l.fn.files l.files;
      text : left l.fn.pieces ≡ done ++ (rest l.buf l.at l.end ++ left l.pieces);
      last : l.end ≤ l.at → left l.pieces ≡ [];
      no_fault : NoneRose (counts l.fn.files) (counts l.files);
      never_fall : NeverFall (counts l.fn.files) (counts l.files);
      begun : (c : Contents) → IfSome (see c l.files) (λ d. d.begun l.name ≡ true);
      before : l.at ≤ l.end;
      within : l.end ≤ length l.buf;
      long : length l.buf ≡ length l.fn.buf;
    }

abbrev pub decreases-loop-at : goal.decreases-loop-at
decreases-loop-at g l = length (g.P.Pieces.left l.pieces) + (l.end - l.at)
