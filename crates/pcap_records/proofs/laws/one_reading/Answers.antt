use Rattle.pcap_records.proofs.Outcomes.{captures_once}
use Rattle.pcap_records.proofs.laws.one_reading.Goals as goal

pub returns : goal.returns
returns c = captures_once
