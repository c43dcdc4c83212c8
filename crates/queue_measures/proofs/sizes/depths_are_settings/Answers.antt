use Rattle.queue_measures.proofs.Depths.{IsPlanOf-depth}
use Rattle.queue_measures.proofs.sizes.depths_are_settings.Goals as goal

pub returns : goal.returns
returns c = λ settings files table captures plan depth planned. IsPlanOf-depth depth plan settings files table captures planned
