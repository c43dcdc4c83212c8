use Rattle.std.proofs.Common.{◌∙◌, ap}
use Rattle.multicast_queue.specs.FanQueues.{queue_at}
use Rattle.multicast_queue.proofs.Levels.{AreKept-empty, queues-empty, queue_at-empty}
use Rattle.multicast_queue.proofs.fan_queues.FanQueues.make.Goals as goal

pub invariant_of-result : goal.invariant_of-result
invariant_of-result c = rw c.in_ok-queues.ensures (AreKept-empty c.args.n c.args.depth c.args.room.now c.told-room)

pub returns-clause-queues : goal.returns-clause-queues
returns-clause-queues c = rw c.in_ok-queues.ensures (queues-empty c.args.n c.args.depth c.args.room.now)

pub returns-clause-empty : goal.returns-clause-empty
returns-clause-empty c =
    λ level. rw c.in_ok-queues.ensures (ap (λ all. (queue_at all level).cells) (queues-empty c.args.n c.args.depth c.args.room.now)
    ∙ queue_at-empty c.args.n c.args.depth c.args.room.now level)
