use Rattle.std.proofs.Common.{◌≡◌, ◌+◌, ◌++◌, length}
use Rattle.std.specs.List.{flat_map}
use Rattle.packet_times.specs.Rows.{row_text, header}
use Rattle.packet_times.specs.KeptSteps.{walk_at, rows_left}
use Rattle.packet_times.proofs.times.PacketTimes.len.Given as goal

abbrev pub invariant-loop-row : goal.invariant-loop-row
invariant-loop-row l = length (header ++ flat_map row_text (rows_left l.self (walk_at 0))) ≡ l.len + length (flat_map row_text (rows_left l.self l.walk))

abbrev pub decreases-loop-row : goal.decreases-loop-row
decreases-loop-row l = length (rows_left l.self l.walk)
