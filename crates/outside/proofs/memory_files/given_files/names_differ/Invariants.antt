use Rattle.std.specs.Prelude.{string_bytes}
use Rattle.outside.proofs.Differing.{DifferBelow}
use Rattle.outside.proofs.memory_files.given_files.names_differ.Given as goal

abbrev pub invariant-loop-i : goal.invariant-loop-i
invariant-loop-i l = DifferBelow (λ f. string_bytes f.0) l.i l.files
