use Rattle.card_core.proofs.Granting.{granted_is}
use Rattle.card_core.proofs.laws.cells_are_granted_in_order.Goals as goal

pub returns : goal.returns
returns c plan q served output t good may = granted_is plan good served q output t may
