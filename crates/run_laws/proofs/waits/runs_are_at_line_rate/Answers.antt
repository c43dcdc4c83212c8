use Rattle.run_laws.proofs.LineRate.{at-line_rate}
use Rattle.run_laws.proofs.waits.runs_are_at_line_rate.Goals as goal

pub returns : goal.returns
returns c scheduler plan slots level good = at-line_rate scheduler plan good level 0 slots
