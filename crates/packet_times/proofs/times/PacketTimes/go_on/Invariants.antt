use Rattle.std.proofs.Common.{◌≡◌, ◌-◌, length}
use Rattle.packet_times.specs.KeptSteps.{rows_left}
use Rattle.packet_times.proofs.times.PacketTimes.go_on.Given as goal

abbrev pub invariant-loop-walk : goal.invariant-loop-walk
invariant-loop-walk l = rows_left l.self l.walk ≡ rows_left l.self l.fn.walk

abbrev pub decreases-loop-walk : goal.decreases-loop-walk
decreases-loop-walk l = length l.self.inputs - l.walk.input
