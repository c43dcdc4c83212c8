use Rattle.std.proofs.Common.{take}
use Rattle.switch_plan.specs.PortSteps.{IsBroughtBy}
use Rattle.switch_plan.proofs.port_rooms.brought_by.Given as goal

abbrev pub invariant-loop-packet : goal.invariant-loop-packet
invariant-loop-packet l = IsBroughtBy (take l.packet-index l.packets) l.brought
