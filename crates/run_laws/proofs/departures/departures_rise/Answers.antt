use Rattle.run_laws.proofs.Leaving.{rise}
use Rattle.run_laws.proofs.departures.departures_rise.Goals as goal

pub returns : goal.returns
returns c = λ scheduler plan slots scheduling good ends. rise scheduler plan slots
