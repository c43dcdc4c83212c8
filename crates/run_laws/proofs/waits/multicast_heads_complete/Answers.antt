use Rattle.run_laws.proofs.RunCompletes.{heads-complete}
use Rattle.run_laws.proofs.waits.multicast_heads_complete.Goals as goal

pub returns : goal.returns
returns c plan slots good first level i j below inside few clean named = heads-complete plan good slots first level i j below inside few clean named
