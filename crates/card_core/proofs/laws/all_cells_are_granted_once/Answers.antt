use Rattle.card_core.proofs.Granting.{all_granted}
use Rattle.card_core.proofs.laws.all_cells_are_granted_once.Goals as goal

pub returns : goal.returns
returns c plan q served output t good may empty = all_granted plan good served q output t may empty
