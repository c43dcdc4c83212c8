use Rattle.card_core.proofs.Granting.{unicast_granted}
use Rattle.card_core.proofs.laws.unicast_cells_are_granted_in_order.Goals as goal

pub returns : goal.returns
returns c plan served output level t good may = unicast_granted plan good served output level t may
