use Rattle.std.proofs.Common.{refl}
use Rattle.pcap_records.specs.Format.{number_bytes}
use Rattle.descriptor_runs.proofs.Records.{header_written}
use Rattle.descriptor_runs.proofs.outputs.header_of.Goals as goal

pub returns : goal.returns
unfolding number_bytes
returns c =
    rw (← c.fraction_in.ensures)
    (header_written c.args.packet.now.seconds c.fraction_in.result c.args.packet.now.len c.args.packet.now.original
    _ c.write_u32.new.buf c.write_u32-2.new.buf c.write_u32-3.new.buf c.write_u32-4.new.buf
    refl c.write_u32.ensures c.write_u32-2.ensures c.write_u32-3.ensures c.write_u32-4.ensures)
