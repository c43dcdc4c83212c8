use Rattle.random_picks.proofs.Feeding.{AreFed}
use Rattle.random_picks.proofs.matching.feed.Given as goal

abbrev pub invariant-loop-j : goal.invariant-loop-j
invariant-loop-j l = AreFed l.n l.j l.granted l.accepted l.fn.out l.out
