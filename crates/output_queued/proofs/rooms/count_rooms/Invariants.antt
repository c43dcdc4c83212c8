use Rattle.std.proofs.Common.{◌≡◌, map, take}
use Rattle.card_core.specs.StateSteps.{HasRooms, AreFew}
use Rattle.output_queued.specs.Switches.{planned_of}
use Rattle.output_queued.proofs.rooms.count_rooms.Given as goal

abbrev pub invariant-loop-packet : goal.invariant-loop-packet
invariant-loop-packet l = record {
  ports : l.rooms.ports ≡ l.n;
  rooms : HasRooms l.n (map planned_of (take l.packet-index l.coming)) l.rooms.unicast l.rooms.multicast;
  few : AreFew l.packet-index l.rooms.unicast l.rooms.multicast;
}
