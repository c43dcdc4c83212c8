use Rattle.std.proofs.Common.{arith}
use Rattle.line_pace.proofs.Rates.{split_div}
use Rattle.line_pace.proofs.pace.slots_in.Goals as goal

pub returns-clause-value : goal.returns-clause-value
returns-clause-value c = split_div c.args.nanos c.args.mbps 512000 (omega arith)
