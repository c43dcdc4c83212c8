use Rattle.std.proofs.Common.{◌^◌, ◌≤◌, ◌+◌, ◌-◌, ◌*◌}
use Rattle.known_answers.proofs.arrival_rows.slots_one_by_one.Given as goal

-- the line is free from a slot on that leaves room for the packets that are to come
abbrev pub invariant-loop-packet : goal.invariant-loop-packet
invariant-loop-packet l = l.free ≤ 2 ^ 64 - 2 ^ 61 + 4682 * l.packet-index
