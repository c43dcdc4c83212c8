use Rattle.run_laws.proofs.Leaving.{each_departs}
use Rattle.run_laws.proofs.departures.packets_depart.Goals as goal

pub returns : goal.returns
returns c = λ scheduler plan slots scheduling good ends. each_departs scheduler scheduling plan good slots ends
