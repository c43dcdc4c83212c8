use Rattle.std.proofs.Common.{◌≡◌, map, take}
use Rattle.switch_run.specs.MakingSteps.{line_of_card}
use Rattle.switch_run.proofs.captures.out_lines.Given as goal

abbrev pub invariant-loop-output : goal.invariant-loop-output
invariant-loop-output l = l.lines.items ≡ map line_of_card (take l.output-index l.outputs)
