use Rattle.islip_rounds.proofs.Scattering.{IsScattered}
use Rattle.islip_rounds.proofs.kernels.scatter.Given as goal

abbrev pub invariant-loop-j : goal.invariant-loop-j
invariant-loop-j l = IsScattered l.i l.row l.rest l.fn.columns l.columns

abbrev pub decreases-loop-j : goal.decreases-loop-j
decreases-loop-j l = l.rest
