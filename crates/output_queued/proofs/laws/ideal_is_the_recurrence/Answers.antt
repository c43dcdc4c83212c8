use Rattle.output_queued.proofs.Ideals.{recurrence}
use Rattle.output_queued.proofs.laws.ideal_is_the_recurrence.Goals as goal

pub returns : goal.returns
returns c = recurrence
