use Rattle.std.proofs.Common.{arith}
use Rattle.arrival_queues.proofs.Counts.{held-le}
use Rattle.arrival_queues.proofs.queues.ArrivalQueues.held.Goals as goal

pub returns-clause-within : goal.returns-clause-within
returns-clause-within c = omega (arith, c.self.invariant.held_is, held-le _ c.self.invariant.whole)
