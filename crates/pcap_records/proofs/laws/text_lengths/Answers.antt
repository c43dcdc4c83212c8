use Rattle.pcap_records.proofs.Output.{length-header_text, length-record_text}
use Rattle.pcap_records.proofs.laws.text_lengths.Goals as goal

pub returns : goal.returns
returns c = record { header = length-header_text; record_of_message = length-record_text }
