use Rattle.card_core.specs.Queues.{before}
use Rattle.card_core.proofs.KeepingRules.{queue_keeps}
use Rattle.card_core.proofs.OneHistory.{one_history}
use Rattle.card_core.proofs.laws.rules_tell_the_queue.Goals as goal

pub returns : goal.returns
returns c plan q served history t good keeps = one_history plan q served history (before plan q served) keeps (queue_keeps plan q served good) t
