use Rattle.std.proofs.Common.{arith}
use Rattle.arrival_queues.proofs.Counts.{arrivals-le}
use Rattle.arrival_queues.proofs.queues.ArrivalQueues.sum_of_arrivals.Goals as goal

pub returns-clause-within : goal.returns-clause-within
returns-clause-within c = rw (← c.self.view_is) (omega (arith, c.self.invariant.arrivals_are, arrivals-le _ c.self.invariant.whole))
