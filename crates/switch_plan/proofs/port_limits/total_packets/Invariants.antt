use Rattle.std.proofs.Common.{◌≡◌, length, take}
use Rattle.std.specs.Prelude.{sum_by}
use Rattle.switch_plan.proofs.port_limits.total_packets.Given as goal

abbrev pub invariant-loop-port : goal.invariant-loop-port
invariant-loop-port l = l.packets ≡ sum_by (λ port. length port.packets.items) (take l.port-index l.ports)
