use Rattle.pcap_records.proofs.Readable.{readable, readable_in_nanos}
use Rattle.pcap_records.proofs.laws.what_is_read_can_be_written.Goals as goal

pub returns : goal.returns
returns c = record { own_unit = readable; nanoseconds = readable_in_nanos }
