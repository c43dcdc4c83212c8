use Rattle.std.proofs.Common.{take}
use Rattle.packet_times.specs.MostSteps.{AreAllCounted}
use Rattle.packet_times.proofs.most.most_of_inputs.Given as goal

abbrev pub invariant-loop-input : goal.invariant-loop-input
invariant-loop-input l = AreAllCounted (take l.input-index l.inputs) l.rows
