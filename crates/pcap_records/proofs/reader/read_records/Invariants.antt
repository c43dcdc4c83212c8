use Rattle.std.proofs.Common.{◌-◌, length}
use Rattle.pcap_records.proofs.Walk.{IsReadBefore}
use Rattle.pcap_records.proofs.reader.read_records.Given as goal

abbrev pub invariant-loop-at : goal.invariant-loop-at
invariant-loop-at l = IsReadBefore l.header.order l.header.nano l.bytes l.at l.packets.items

abbrev pub decreases-loop-at : goal.decreases-loop-at
decreases-loop-at l = length l.bytes - l.at
