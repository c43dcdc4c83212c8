use Rattle.std.proofs.Common.{◌≡◌, take}
use Rattle.card_core.specs.StateSteps.{HasRooms, AreFew}
use Rattle.descriptor_runs.proofs.inputs.rooms_of.Given as goal

abbrev pub invariant-loop-packet : goal.invariant-loop-packet
invariant-loop-packet l = record {
  ports : l.rooms.ports ≡ l.plan.n;
  rooms : HasRooms l.plan.n (take l.packet-index l.plan.packets.items) l.rooms.unicast l.rooms.multicast;
  few : AreFew l.packet-index l.rooms.unicast l.rooms.multicast;
}
