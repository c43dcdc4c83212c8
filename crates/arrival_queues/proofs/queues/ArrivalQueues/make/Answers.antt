use Rattle.arrival_queues.proofs.Keeping.{AreKept-made, queues-made}
use Rattle.arrival_queues.proofs.queues.ArrivalQueues.make.Goals as goal

pub invariant_of-result : goal.invariant_of-result
invariant_of-result c =
    rw (c.in_ok-queues_made.ensures, c.in_ok-make.ensures)
    (AreKept-made c.args.queueing c.args.ports c.args.depth c.requires.some c.requires.size c.requires.room)

pub returns : goal.returns
returns c = rw c.in_ok-queues_made.ensures (queues-made c.args.queueing c.args.ports c.args.depth)
