use Rattle.scheduler_laws.proofs.Unfilled.{unfilled_at_first}
use Rattle.scheduler_laws.proofs.full_load.full_load_is_not_matched_before.Goals as goal

pub returns : goal.returns
returns c = λ n t level slots some size level_in loaded. unfilled_at_first n t level slots loaded
