use Rattle.std.proofs.Common.{sym}
use Rattle.forward_table.proofs.Indexing.{line_at, line_in_gap}
use Rattle.forward_table.proofs.ordered_lines.line_of.Goals as goal

pub returns-in-Ok : goal.returns-in-Ok
returns-in-Ok c = sym (line_at c.args.ordered.now c.args.target.now c.in-Ok.at c.requires c.in-Ok.ensures.found)

pub returns-in-Err : goal.returns-in-Err
returns-in-Err c = sym (line_in_gap c.args.ordered.now c.args.target.now _ c.in-Err.ensures.absent)
