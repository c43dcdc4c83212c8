use Rattle.std.proofs.Common.{◌≡◌, drop}
use Rattle.switch_plan.specs.Refusals.{first_over}
use Rattle.switch_plan.proofs.limits.first_over.Given as goal

abbrev pub invariant-loop-port : goal.invariant-loop-port
invariant-loop-port l = first_over l.most 0 l.ports ≡ first_over l.most l.port (drop l.port l.ports)
