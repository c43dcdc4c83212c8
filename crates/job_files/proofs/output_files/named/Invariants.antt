use Rattle.std.proofs.Common.{◌≡◌, map}
use Rattle.job_files.specs.OutputFiles.{files_from, shown}
use Rattle.job_files.proofs.output_files.named.Given as goal

abbrev pub invariant-loop-bytes : goal.invariant-loop-bytes
invariant-loop-bytes l = map shown l.files.items ≡ files_from l.prefix 0 (map (λ v. v.items) l.yielded)
