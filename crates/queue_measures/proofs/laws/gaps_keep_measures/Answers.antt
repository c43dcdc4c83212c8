use Rattle.queue_measures.proofs.Gaps.{gap-measures}
use Rattle.queue_measures.proofs.laws.gaps_keep_measures.Goals as goal

pub returns : goal.returns
returns c scheduler plan measures slot next noted gap = gap-measures scheduler plan slot next gap measures noted
