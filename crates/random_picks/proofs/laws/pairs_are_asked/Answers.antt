use Rattle.random_picks.proofs.Asked.{pairs-asked}
use Rattle.random_picks.proofs.laws.pairs_are_asked.Goals as goal

pub returns : goal.returns
returns c n rounds stream rows i j level kind serves = pairs-asked n rows rounds stream i j level kind serves
