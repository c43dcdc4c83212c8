use Rattle.eslip_rounds.proofs.Filling.{AreFilled}
use Rattle.eslip_rounds.proofs.asks.fill.Given as goal

abbrev pub invariant-loop-set : goal.invariant-loop-set
invariant-loop-set l = AreFilled l.n l.set l.rows l.outputs l.columns
