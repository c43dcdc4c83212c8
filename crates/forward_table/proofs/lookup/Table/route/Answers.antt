use Rattle.std.proofs.Common.{sym, ◌∙◌}
use Rattle.forward_table.proofs.Serving.{Contains-serving}
use Rattle.forward_table.proofs.lookup.Table.route.Goals as goal

pub returns-clause-line : goal.returns-clause-line
returns-clause-line c =
    Contains-serving c.args.self.now c.args.address c.in_ok-serving_line.field-0 (sym c.serving_line.ensures ∙ c.in_ok-serving_line.was)
