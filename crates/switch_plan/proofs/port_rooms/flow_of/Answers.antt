use Rattle.std.proofs.Common.{refl, arith}
use Rattle.switch_plan.proofs.Flows.{flow-unicast, flow-multicast}
use Rattle.switch_plan.proofs.port_rooms.flow_of.Goals as goal

pub returns-in-Some : goal.returns-in-Some
returns-in-Some c =
    let one = c.in-Some.ensures.one in
    let flow = flow-unicast c.args.packet.now c.in-Some.field-0 one.1 one.0 in
    let level = c.from-unicast.ensures in
    omega (arith, flow, level)

pub returns-in-None : goal.returns-in-None
returns-in-None c =
    let flow = flow-multicast c.args.packet.now (c.in-None.ensures.none.0 refl) c.requires in
    let level = c.from-unicast.ensures in
    omega (arith, flow, level)
