use Rattle.std.proofs.Common.{rules}
use Rattle.scheduler_c.proofs.Levels.{IsOfLevels-sized}
use Rattle.scheduler_c.proofs.rows.join.Goals as goal

pub returns-clause-levels : goal.returns-clause-levels
returns-clause-levels c = IsOfLevels-sized c.args.row.now (search rules) (search rules)
