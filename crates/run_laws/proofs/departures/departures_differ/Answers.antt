use Rattle.run_laws.proofs.Leaving.{differ}
use Rattle.run_laws.proofs.departures.departures_differ.Goals as goal

pub returns : goal.returns
returns c = λ scheduler plan slots scheduling good ends. differ scheduler plan slots
