use Rattle.std.proofs.Common.{◌≡◌, ℕ, List, take}
use Rattle.std.specs.Prelude.{map}
use Rattle.pcap_records.specs.Packets.{packet_in}
use Rattle.switch_plan.specs.Traffic.{least_in}
use Rattle.switch_plan.proofs.traffic.least_in.Given as goal

abbrev pub invariant-loop-packet : goal.invariant-loop-packet
invariant-loop-packet l =
    (bytes : List ℕ) → l.least ≡ least_in l.fn.least (map (packet_in bytes) (take l.packet-index l.packets))
