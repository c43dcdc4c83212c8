use Rattle.std.proofs.Common.{◌≡◌, ℕ, ◌<◌, length}
use Rattle.rotating_pick.specs.PortSets.{Has}
use Rattle.switch_plan.specs.OutputSteps.{room_at, with_packet}
use Rattle.switch_plan.proofs.port_rooms.add_packet.Given as goal

abbrev pub invariant-loop-output : goal.invariant-loop-output
invariant-loop-output l = record {
  long : length l.rooms ≡ 64;
  inside : (j : ℕ) → Has l.rest j → Has l.packet.fan j;
  left : (j : ℕ) → j < 64 → Has l.rest j → room_at l.rooms j ≡ room_at l.fn.rooms j;
  done : (j : ℕ) → j < 64 → (Has l.rest j → ⊥) → room_at l.rooms j ≡ with_packet j (room_at l.fn.rooms j) l.packet;
}

abbrev pub decreases-loop-output : goal.decreases-loop-output
decreases-loop-output l = l.rest
