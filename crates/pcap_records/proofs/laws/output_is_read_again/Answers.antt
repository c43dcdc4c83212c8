use Rattle.pcap_records.proofs.Output.{read_again, read_again_alone}
use Rattle.pcap_records.proofs.laws.output_is_read_again.Goals as goal

pub returns : goal.returns
returns c = record { alone = read_again_alone; followed = read_again }
