use Rattle.card_core.proofs.Delivering.{flow_is_cut}
use Rattle.card_core.proofs.laws.flows_are_cut.Goals as goal

pub returns : goal.returns
returns c input level kind cells = flow_is_cut input level kind cells
