use Rattle.std.proofs.Common.{◌≡◌, map, take}
use Rattle.voq_banks.specs.CellQueues.{empty_queue}
use Rattle.voq_banks.proofs.banks.queues.Given as goal

abbrev pub invariant-loop-packets : goal.invariant-loop-packets
invariant-loop-packets l = l.queues.items ≡ map (empty_queue l.depth) (take l.packets-index l.room)
