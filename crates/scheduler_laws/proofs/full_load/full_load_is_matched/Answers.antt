use Rattle.scheduler_laws.proofs.Filling.{filled_at_last}
use Rattle.scheduler_laws.proofs.full_load.full_load_is_matched.Goals as goal

pub returns : goal.returns
returns c = filled_at_last
