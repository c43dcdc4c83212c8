use Rattle.packet_times.specs.Rows.{aside_row}
use Rattle.packet_times.proofs.walk.aside.Goals as goal

pub returns : goal.returns
unfolding aside_row
returns c = cc
