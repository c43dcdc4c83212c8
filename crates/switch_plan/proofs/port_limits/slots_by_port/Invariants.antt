use Rattle.std.proofs.Common.{◌≡◌, length, take}
use Rattle.std.specs.Prelude.{map}
use Rattle.switch_plan.specs.declared.port_plans.PortPlan.{PortPlan}
use Rattle.switch_plan.proofs.port_limits.slots_by_port.Given as goal

abbrev pub invariant-loop-port : goal.invariant-loop-port
invariant-loop-port l = record {
  size : length l.slots ≡ 64;
  same : take l.port l.slots ≡ take l.port (map (λ (port : PortPlan). port.slots) l.ports);
}
