use Rattle.run_laws.proofs.Departing.{departures-are}
use Rattle.run_laws.proofs.numbers.flows_are_interleaved.Goals as goal

pub returns : goal.returns
returns c scheduler plan slots scheduling good ends j to = departures-are scheduler scheduling plan good slots ends j to
