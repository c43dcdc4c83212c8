use Rattle.pcap_records.proofs.Output.{message_is, packet_is}
use Rattle.pcap_records.proofs.laws.message_stands_for_its_packet.Goals as goal

pub returns : goal.returns
returns c = record { message = message_is; packet = packet_is }
