use Rattle.std.proofs.Common.{◌≡◌, take}
use Rattle.card_core.specs.StateSteps.{HasRooms, AreFew}
use Rattle.card_core.proofs.rooms.count_rooms.Given as goal

abbrev pub invariant-loop-packet : goal.invariant-loop-packet
invariant-loop-packet l = record {
  ports : l.rooms.ports ≡ l.n;
  rooms : HasRooms l.n (take l.packet-index l.packets) l.rooms.unicast l.rooms.multicast;
  few : AreFew l.packet-index l.rooms.unicast l.rooms.multicast;
}
