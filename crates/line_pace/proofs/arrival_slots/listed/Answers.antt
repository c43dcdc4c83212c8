use Rattle.std.proofs.Common.{arith, ap, drop, ◌++◌}
use Rattle.line_pace.specs.Arrivals.{arrivals_from}
use Rattle.line_pace.proofs.Running.{slots_taken-is, free_after-le, arrival-lt}
use Rattle.line_pace.proofs.arrival_slots.listed.Goals as goal

pub loop-packet-init : goal.loop-packet-init
loop-packet-init c =
    let empty = c.in_ok-slots.ensures.items in
    record {
      so_far = ap (λ xs. xs ++ arrivals_from c.args.pace.now 0 c.args.packets.now) empty;
      within = omega (arith, slots_taken-is c.args.pace.now c.args.packets.now, c.requires.within);
    }

pub arrival-arrival-requires-clause-free : goal.arrival-arrival-requires-clause-free
arrival-arrival-requires-clause-free c =
    omega (arith, free_after-le c.args.pace.now c.loop-packet.free (drop c.loop-packet.packet-index c.args.packets.now), c.loop-packet.invariant.within)

pub overflow_cast-arrival : goal.overflow_cast-arrival
overflow_cast-arrival c =
    let before = arrival-lt c.args.pace.now c.loop-packet.free c.args.packets.now c.loop-packet.packet-index
    (record { time = 0; cells = 0 }) c.loop-packet-test.true in
    omega (arith, c.arrival-arrival.ensures.value, c.loop-packet.invariant.within)

pub overflow_add-free : goal.overflow_add-free
overflow_add-free c = omega (
  arith,
  c.arrival-arrival.ensures.bound,
  free_after-le c.args.pace.now c.loop-packet.free (drop c.loop-packet.packet-index c.args.packets.now),
  c.loop-packet.invariant.within,
)
