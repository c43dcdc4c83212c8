use Rattle.islip_rounds.proofs.Exchanging.{Exchanging}
use Rattle.islip_rounds.proofs.square.exchange.Given as goal

abbrev pub invariant-loop-r : goal.invariant-loop-r
invariant-loop-r l = Exchanging l.k l.r l.fn.rows l.rows
