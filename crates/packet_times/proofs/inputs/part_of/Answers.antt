use Rattle.std.proofs.Common.{arith}
use Rattle.packet_times.proofs.Served.{served-past}
use Rattle.packet_times.proofs.inputs.part_of.Goals as goal

pub returns-else-input-ports : goal.returns-else-input-ports
returns-else-input-ports c = served-past c.ports.result c.args.matched.now c.ports.ensures.whole c.args.input (let no = c.if-input-ports.false in omega arith)

pub returns-then-input-ports : goal.returns-then-input-ports
returns-then-input-ports c =
    let inside = c.if-input-ports.true in
    let ports = c.ports.ensures.value in
    c.requires c.args.input (omega arith)
