use Rattle.std.proofs.Common.{arith, sym, ap, ◌∙◌, ◌≡◌, drop, []}
use Rattle.std.proofs.lemmas.List.{drop_all}
use Rattle.line_pace.proofs.Running.{free_after, slots_taken-is}
use Rattle.line_pace.proofs.arrival_slots.slots_taken.Goals as goal

pub returns : goal.returns
returns c =
    let p = c.args.pace.now in
    let none : drop c.loop-packet.packet-index c.args.packets.now ≡ [] =
    drop_all c.loop-packet.packet-index c.args.packets.now (omega (arith, c.loop-packet-test.false)) in
    ap (free_after p c.loop-packet.free) (sym none) ∙ (c.loop-packet.invariant.so_far ∙ sym (slots_taken-is p c.args.packets.now))
