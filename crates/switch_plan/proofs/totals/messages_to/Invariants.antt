use Rattle.std.proofs.Common.{◌≡◌, take}
use Rattle.std.specs.Prelude.{sum_by}
use Rattle.switch_plan.specs.OutputSteps.{room_at}
use Rattle.switch_plan.proofs.totals.messages_to.Given as goal

abbrev pub invariant-loop-port : goal.invariant-loop-port
invariant-loop-port l = l.messages ≡ sum_by (λ port. (room_at port.rooms l.output).messages) (take l.port-index l.brought)
