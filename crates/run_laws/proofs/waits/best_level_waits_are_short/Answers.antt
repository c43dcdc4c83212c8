use Rattle.run_laws.proofs.RunWindows.{waits-short}
use Rattle.run_laws.proofs.waits.best_level_waits_are_short.Goals as goal

pub returns : goal.returns
returns c plan slots good level best = waits-short plan good slots level best
