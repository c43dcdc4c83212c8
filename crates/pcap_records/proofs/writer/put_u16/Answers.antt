use Rattle.pcap_records.specs.declared.order.Order.TheVariants.{Little}
use Rattle.pcap_records.specs.Format.{number_bytes}
use Rattle.pcap_records.proofs.Filling.{put_at}
use Rattle.pcap_records.proofs.writer.put_u16.Goals as goal

pub returns : goal.returns
unfolding number_bytes
returns c = put_at c.args.at 2 c.args.buf.now c.write_u16.new.buf (number_bytes Little 2 c.args.number) c.write_u16.ensures
