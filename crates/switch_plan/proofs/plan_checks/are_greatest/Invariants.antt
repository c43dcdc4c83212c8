use Rattle.std.proofs.Common.{◌≡◌, ◌++◌, take}
use Rattle.std.specs.Prelude.{flat_map}
use Rattle.switch_plan.specs.OutputSteps.{room_at}
use Rattle.switch_plan.proofs.plan_checks.are_greatest.Given as goal

abbrev pub invariant-loop-port : goal.invariant-loop-port
invariant-loop-port l = l.sizes ≡ flat_map (λ port. (room_at port.rooms l.output).sizes) (take l.port-index l.brought) ++ l.rest
