use Rattle.run_laws.proofs.FirstDone.{one_length}
use Rattle.run_laws.proofs.ends.lengths_are_one.Goals as goal

pub returns : goal.returns
returns c scheduler plan a b ends also = one_length scheduler plan a b ends also
