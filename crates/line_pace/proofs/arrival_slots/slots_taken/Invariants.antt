use Rattle.std.proofs.Common.{◌≡◌, ◌^◌, ◌≤◌, ◌+◌, ◌-◌, ◌*◌, drop}
use Rattle.line_pace.proofs.Running.{free_after}
use Rattle.line_pace.proofs.arrival_slots.slots_taken.Given as goal

abbrev pub invariant-loop-packet : goal.invariant-loop-packet
invariant-loop-packet l = record {
  so_far : free_after l.pace l.free (drop l.packet-index l.packets) ≡ free_after l.pace 0 l.packets;
  bound : l.free ≤ 2 ^ 64 - 2 ^ 61 + 4682 * l.packet-index;
}
