use Rattle.card_core.proofs.KeepingRules.{queue_keeps}
use Rattle.card_core.proofs.laws.queues_keep_the_rules.Goals as goal

pub returns : goal.returns
returns c plan q served good = queue_keeps plan q served good
