use Rattle.scheduler_laws.proofs.FirmFamily.{firm_comes_at_line_rate}
use Rattle.scheduler_laws.proofs.reached_waits.firm_is_reached_by_cells.Goals as goal

pub returns : goal.returns
returns c = firm_comes_at_line_rate
