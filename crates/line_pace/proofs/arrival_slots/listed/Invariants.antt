use Rattle.std.proofs.Common.{◌≡◌, ◌≤◌, ◌++◌, drop}
use Rattle.line_pace.specs.Arrivals.{arrivals_from, arrival_slots}
use Rattle.line_pace.proofs.Running.{free_after}
use Rattle.line_pace.proofs.arrival_slots.listed.Given as goal

abbrev pub invariant-loop-packet : goal.invariant-loop-packet
invariant-loop-packet l = record {
  so_far : l.slots.items ++ arrivals_from l.pace l.free (drop l.packet-index l.packets) ≡ arrival_slots l.pace l.packets;
  within : free_after l.pace l.free (drop l.packet-index l.packets) ≤ 131072;
}
