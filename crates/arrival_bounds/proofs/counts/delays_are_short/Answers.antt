use Rattle.std.proofs.Common.{suc, arith}
use Rattle.arrival_bounds.proofs.Delays.{gone_soon}
use Rattle.arrival_bounds.proofs.counts.delays_are_short.Goals as goal

pub returns : goal.returns
returns c = λ n levels most came gone served apart i j l t i_in j_in l_in.
    gone_soon n levels most came gone served apart (suc t) i j l t (omega arith) i_in j_in l_in
