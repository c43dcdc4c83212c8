use Rattle.std.proofs.Common.{◌∙◌, sym, ap, arith}
use Rattle.switch_plan.specs.Refusals.{over_limits}
use Rattle.switch_plan.specs.JobSteps.{packets_of_ports}
use Rattle.switch_plan.proofs.PortSums.{ports_long, packets_are, packets_fit, ports_summable, over_is}
use Rattle.switch_plan.proofs.port_limits.are_within.Goals as goal

pub total_packets-packets-requires : goal.total_packets-packets-requires
total_packets-packets-requires c =
    let ports = c.args.ports.now in
    let few = c.requires.few in
    omega (arith, packets_are ports, packets_fit (packets_of_ports ports) c.args.brought.now (omega (arith, few, ports_long ports)) c.requires.brought)

pub total_work-cells-requires : goal.total_work-cells-requires
total_work-cells-requires c = ports_summable c.args.ports.now c.args.brought.now c.requires.few c.requires.brought

pub returns-in-Some-clause-over : goal.returns-in-Some-clause-over
returns-in-Some-clause-over c =
    let packets = c.total_packets-packets.result in
    let cells = c.total_work-cells.result in
    sym (over_is c.args.limits.now c.args.ports.now c.args.brought.now packets cells c.requires.brought
    c.total_packets-packets.ensures c.total_work-cells.ensures)
    ∙ ap (λ slots. over_limits c.args.limits.now slots packets cells) (sym c.slots_by_port-slots.ensures)
    ∙ sym c.passed.ensures
    ∙ c.in-Some.is

pub returns-in-None-clause-within : goal.returns-in-None-clause-within
returns-in-None-clause-within c =
    let packets = c.total_packets-packets.result in
    let cells = c.total_work-cells.result in
    sym (over_is c.args.limits.now c.args.ports.now c.args.brought.now packets cells c.requires.brought
    c.total_packets-packets.ensures c.total_work-cells.ensures)
    ∙ ap (λ slots. over_limits c.args.limits.now slots packets cells) (sym c.slots_by_port-slots.ensures)
    ∙ sym c.passed.ensures
    ∙ c.in-None.is
