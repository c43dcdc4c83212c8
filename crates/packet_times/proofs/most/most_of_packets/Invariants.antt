use Rattle.std.proofs.Common.{take}
use Rattle.packet_times.specs.MostSteps.{AreCounted}
use Rattle.packet_times.proofs.most.most_of_packets.Given as goal

abbrev pub invariant-loop-packet : goal.invariant-loop-packet
invariant-loop-packet l = AreCounted (take l.packet-index l.packets) l.rows
