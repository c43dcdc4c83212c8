use Rattle.simulated_runs.proofs.LeastDelays.{delays-least}
use Rattle.simulated_runs.proofs.bounds.ideal_has_least_delays.Goals as goal

pub returns : goal.returns
returns c ideal other t good compared all all_others none = delays-least ideal other good t compared all all_others none
