use Rattle.std.proofs.Common.{◌≡◌, take}
use Rattle.std.specs.Prelude.{map}
use Rattle.switch_plan.proofs.output_rooms.brought_by_ports.Given as goal

abbrev pub invariant-loop-port : goal.invariant-loop-port
invariant-loop-port l = l.brought.items ≡ map (λ port. port.brought) (take l.port-index l.ports)
