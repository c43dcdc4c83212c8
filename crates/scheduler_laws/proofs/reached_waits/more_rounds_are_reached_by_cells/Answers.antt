use Rattle.scheduler_laws.proofs.MoreOpenings.{more_come_at_line_rate}
use Rattle.scheduler_laws.proofs.reached_waits.more_rounds_are_reached_by_cells.Goals as goal

pub returns : goal.returns
returns c = more_come_at_line_rate
