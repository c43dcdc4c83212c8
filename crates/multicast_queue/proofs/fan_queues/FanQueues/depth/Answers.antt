use Rattle.multicast_queue.proofs.Rests.{rest-zero, rest-head, rest-in}
use Rattle.multicast_queue.proofs.Levels.{depth-within, rest-at, fans-at}
use Rattle.multicast_queue.proofs.fan_queues.FanQueues.depth.Goals as goal

pub returns-clause-within : goal.returns-clause-within
returns-clause-within c =
    let s = c.self.inside in
    rw (← c.self.view_is) (depth-within s.ports s.depth s.queues c.self.invariant)

pub returns-clause-empty : goal.returns-clause-empty
returns-clause-empty c =
    let s = c.self.inside in
    rw (← c.self.view_is) (λ level inside. rest-zero _ _ (rest-at s.ports s.depth s.queues c.self.invariant level inside))

pub returns-clause-head : goal.returns-clause-head
returns-clause-head c =
    let s = c.self.inside in
    rw (← c.self.view_is)
    (λ level output inside. rest-head _ _ (rest-at s.ports s.depth s.queues c.self.invariant level inside) output)

pub returns-clause-ports : goal.returns-clause-ports
returns-clause-ports c =
    let s = c.self.inside in
    rw (← c.self.view_is)
    (λ level output inside. rest-in s.ports _ _ (fans-at s.ports s.depth s.queues c.self.invariant level inside)
    (rest-at s.ports s.depth s.queues c.self.invariant level inside) output)
