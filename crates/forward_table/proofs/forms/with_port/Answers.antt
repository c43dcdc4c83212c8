use Rattle.std.proofs.Common.{arith}
use Rattle.std.proofs.lemmas.Grind.{common_steps}
use Rattle.forward_table.proofs.Ports.{with_is, IsFan-with}
use Rattle.forward_table.proofs.forms.with_port.Goals as goal

pub returns-in-Ok-clause-port : goal.returns-in-Ok-clause-port
returns-in-Ok-clause-port c =
    let e = with_is c.in-Ok.set c.args.port c.with.result c.with.ensures in
    rw (e, c.in-Ok.is) (grind (arith, common_steps))

pub returns-in-Ok-clause-fan : goal.returns-in-Ok-clause-fan
returns-in-Ok-clause-fan c = rw c.in-Ok.is (λ among. IsFan-with c.args.n c.in-Ok.set c.args.port c.with.result among c.if-port-n.true c.with.ensures)
