use Rattle.packet_times.specs.Rows.{routed_row}
use Rattle.packet_times.proofs.times.PacketTimes.routed.Goals as goal

pub returns : goal.returns
unfolding routed_row
returns c = cc
