use Rattle.std.proofs.Common.{arith}
use Rattle.journal_check.proofs.Written.{outputs_long}
use Rattle.journal_check.proofs.bytes.outputs_len.Goals as goal

pub returns-clause-value : goal.returns-clause-value
returns-clause-value c = omega (arith, outputs_long c.args.matched.now, c.ports.ensures.value, c.from.ensures)
