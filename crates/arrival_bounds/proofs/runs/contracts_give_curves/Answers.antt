use Rattle.arrival_bounds.proofs.ContractCurves.{curves_of}
use Rattle.arrival_bounds.proofs.runs.contracts_give_curves.Goals as goal

pub returns : goal.returns
returns c = λ plan contracts_in contracts_out keeps. curves_of plan contracts_in contracts_out keeps
