use Rattle.card_core.proofs.KeepingRules.{rest_unserved}
use Rattle.card_core.proofs.laws.rest_was_not_served.Goals as goal

pub returns : goal.returns
returns c plan q served output t good = rest_unserved plan good q served output t
