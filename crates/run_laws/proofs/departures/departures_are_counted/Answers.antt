use Rattle.run_laws.proofs.Copies.{counted}
use Rattle.run_laws.proofs.departures.departures_are_counted.Goals as goal

pub returns : goal.returns
returns c = λ scheduler plan slots scheduling good ends. counted scheduler scheduling plan good slots ends
