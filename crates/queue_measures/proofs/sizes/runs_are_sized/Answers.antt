use Rattle.queue_measures.proofs.Sized.{IsSized-run}
use Rattle.queue_measures.proofs.sizes.runs_are_sized.Goals as goal

pub returns : goal.returns
returns c = λ scheduler plan slots good ends. IsSized-run scheduler plan good slots ends
