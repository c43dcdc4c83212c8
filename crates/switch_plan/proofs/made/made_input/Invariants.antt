use Rattle.std.proofs.Common.{◌≡◌}
use Rattle.std.specs.Prelude.{map}
use Rattle.switch_plan.specs.Made.{made_capture, below}
use Rattle.switch_plan.proofs.made.made_input.Given as goal

abbrev pub invariant-loop-port : goal.invariant-loop-port
invariant-loop-port l = map (λ file. file.items) l.captures.items ≡ map (made_capture l.job) (below l.port)
