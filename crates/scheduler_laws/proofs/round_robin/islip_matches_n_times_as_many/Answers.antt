use Rattle.scheduler_laws.proofs.Synchronised.{pairs_of_both}
use Rattle.scheduler_laws.proofs.round_robin.islip_matches_n_times_as_many.Goals as goal

pub returns : goal.returns
returns c = pairs_of_both
