use Rattle.std.proofs.Common.{take, sym, subst}
use Rattle.std.proofs.lemmas.List.{take_more, take_all}
use Rattle.card_core.specs.Plans.{no_packet}
use Rattle.switch_plan.specs.PortSteps.{IsBroughtBy}
use Rattle.switch_plan.proofs.Ports.{has_room}
use Rattle.switch_plan.proofs.port_rooms.brought_by.Goals as goal

pub add-requires-clause-few : goal.add-requires-clause-few
add-requires-clause-few c = has_room c.args.packets.now c.loop-packet.packet-index c.loop-packet.brought c.requires c.loop-packet.invariant

pub loop-packet-preserved : goal.loop-packet-preserved
loop-packet-preserved c =
    let packets = c.args.packets.now in
    let k = c.loop-packet.packet-index in
    subst (λ xs. IsBroughtBy xs c.add.new.self) (sym (take_more packets k no_packet c.loop-packet-test.true))
    (c.add.ensures (take k packets) c.loop-packet.invariant)

pub returns : goal.returns
returns c =
    let packets = c.args.packets.now in
    subst (λ xs. IsBroughtBy xs c.loop-packet.brought) (take_all c.loop-packet.packet-index packets c.loop-packet-test.false) c.loop-packet.invariant
