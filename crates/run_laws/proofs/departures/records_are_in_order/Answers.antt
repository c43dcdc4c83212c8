use Rattle.run_laws.proofs.InOrder.{in_order}
use Rattle.run_laws.proofs.departures.records_are_in_order.Goals as goal

pub returns : goal.returns
returns c = λ scheduler plan slots scheduling good ends. in_order scheduler scheduling plan good slots ends
