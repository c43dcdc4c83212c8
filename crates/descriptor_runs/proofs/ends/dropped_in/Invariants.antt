use Rattle.std.proofs.Common.{◌≡◌, take}
use Rattle.std.specs.List.{sum_by}
use Rattle.descriptor_runs.proofs.ends.dropped_in.Given as goal

abbrev pub invariant-loop-input : goal.invariant-loop-input
invariant-loop-input l = l.count ≡ sum_by (λ input. input.dropped) (take l.input-index l.inputs)
