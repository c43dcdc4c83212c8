use Rattle.islip_rounds.specs.Columns.{AreColumns}
use Rattle.islip_rounds.proofs.kernels.transpose_few.Given as goal

abbrev pub invariant-loop-i : goal.invariant-loop-i
invariant-loop-i l = AreColumns l.i l.rows l.columns
