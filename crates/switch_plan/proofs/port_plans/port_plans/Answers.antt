use Rattle.switch_plan.proofs.Ports.{planned_if}
use Rattle.switch_plan.proofs.port_plans.port_plans.Goals as goal

pub returns : goal.returns
returns g c =
    planned_if c.args.table.now c.args.pace c.args.captures.items c.in_ok-plan_each.field-0.items c.in_order.result c.in_ok-plan_each.ensures
    c.in_order.ensures
