use Rattle.scheduler_laws.proofs.Openings.{one_comes_at_line_rate}
use Rattle.scheduler_laws.proofs.reached_waits.one_round_is_reached_by_cells.Goals as goal

pub returns : goal.returns
returns c = one_comes_at_line_rate
