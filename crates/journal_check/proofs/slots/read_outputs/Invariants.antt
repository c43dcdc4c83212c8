use Rattle.journal_check.proofs.SlotLoops.{AreOutputsRead}
use Rattle.journal_check.proofs.slots.read_outputs.Given as goal

abbrev pub invariant-loop-j : goal.invariant-loop-j
invariant-loop-j l = AreOutputsRead l.ports l.bytes l.fn.at l.j l.next l.fed
