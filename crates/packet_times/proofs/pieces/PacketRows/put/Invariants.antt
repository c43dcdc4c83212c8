use Rattle.std.proofs.Common.{◌≡◌, ◌≤◌, ◌++◌, true, length, take}
use Rattle.std.specs.List.{flat_map}
use Rattle.packet_times.specs.Rows.{row_text}
use Rattle.packet_times.specs.KeptSteps.{rows_left, left}
use Rattle.packet_times.specs.contracts.pieces.PacketRows.{the_view}
use Rattle.packet_times.proofs.pieces.PacketRows.put.Given as goal

abbrev pub invariant-loop-buf : goal.invariant-loop-buf
invariant-loop-buf l = record {
  text : left l.fn.self ≡ take l.at l.buf ++ flat_map row_text (rows_left (the_view l.self-inside).times (the_view l.self-inside).walk);
  long : length l.buf ≡ length l.fn.buf;
  inside : l.at ≤ length l.buf;
  began : (the_view l.self-inside).began ≡ true;
}

abbrev pub decreases-loop-buf : goal.decreases-loop-buf
decreases-loop-buf l = length (rows_left (the_view l.self-inside).times (the_view l.self-inside).walk)
