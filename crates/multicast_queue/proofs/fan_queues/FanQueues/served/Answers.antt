use Rattle.std.proofs.Common.{◌∙◌, ◌↔◌, ℕ, ◌<◌, ap, sym, subst, arith, slice_index_or, length, drop, IsTrue}
use Rattle.rotating_pick.specs.PortSets.{Has}
use Rattle.multicast_queue.specs.FanQueues.{FanQueue, HeadStays, queue_at}
use Rattle.multicast_queue.specs.FieldSteps.{IsKept}
use Rattle.multicast_queue.proofs.Rests.{some_wait}
use Rattle.multicast_queue.proofs.Levels.{read_is, queue-of_kept, queue-set, others-set, AreKept-set, IsKept-served}
use Rattle.multicast_queue.proofs.fan_queues.FanQueues.served.Goals as goal

pub serve-requires : goal.serve-requires
serve-requires c =
    let s = c.self.inside in
    let below : c.args.level < length s.queues = omega (arith, c.self.invariant.long, c.requires.level) in
    let old = slice_index_or s.queues c.args.level c.index-self-level.result in
    let found = read_is s.queues c.args.level c.index-self-level.result below in
    let kept : IsKept s.ports s.depth old = rw found (c.self.invariant.each c.args.level c.requires.level) in
    let queue_is = ap (λ b. queue_at b c.args.level) (sym c.self.view_is) ∙ queue-of_kept s.ports s.depth s.queues c.args.level
    ∙ ap (λ k. k.queue) (sym found) in
    some_wait old.queue.rest c.args.mask old.queue.cells kept.rests c.requires.some
    (λ output has. subst (λ q. Has q.rest output) queue_is (c.requires.within output has))

pub returns-clause-others : goal.returns-clause-others
returns-clause-others c =
    let s = c.self.inside in
    rw (← c.self.view_is) (others-set s.ports s.depth s.queues c.args.level c.serve.new.self)

pub returns-clause-leaves : goal.returns-clause-leaves
returns-clause-leaves c =
    λ done. let s = c.self.inside in
    let below : c.args.level < length s.queues = omega (arith, c.self.invariant.long, c.requires.level) in
    let found = read_is s.queues c.args.level c.index-self-level.result below in
    let was = queue-of_kept s.ports s.depth s.queues c.args.level ∙ ap (λ k. k.queue) (sym found) in
    let is = queue-set s.ports s.depth s.queues c.args.level c.serve.new.self below in
    let left = c.serve.ensures.leaves done in
    rw (← c.self.view_is, is) record { cells = left.cells ∙ ap (λ q. drop 1 q.cells) (sym was); rest = left.rest }

pub returns-clause-done : goal.returns-clause-done
returns-clause-done c =
    let s = c.self.inside in
    let below : c.args.level < length s.queues = omega (arith, c.self.invariant.long, c.requires.level) in
    let found = read_is s.queues c.args.level c.index-self-level.result below in
    let was = queue-of_kept s.ports s.depth s.queues c.args.level ∙ ap (λ k. k.queue) (sym found) in
    rw (← c.self.view_is)
    (subst (λ (q : FanQueue). IsTrue c.serve.result ↔ ((output : ℕ) → Has q.rest output → Has c.args.mask output)) (sym was) c.serve.ensures.done)

pub returns-clause-stays : goal.returns-clause-stays
returns-clause-stays c =
    λ more. let s = c.self.inside in
    let below : c.args.level < length s.queues = omega (arith, c.self.invariant.long, c.requires.level) in
    let found = read_is s.queues c.args.level c.index-self-level.result below in
    let was = queue-of_kept s.ports s.depth s.queues c.args.level ∙ ap (λ k. k.queue) (sym found) in
    let is = queue-set s.ports s.depth s.queues c.args.level c.serve.new.self below in
    rw (← c.self.view_is, is)
    (subst (λ (q : FanQueue). HeadStays c.args.mask q c.serve.new.self.queue) (sym was) (c.serve.ensures.stays more))

pub returns-clause-spare : goal.returns-clause-spare
returns-clause-spare c =
    let s = c.self.inside in
    let below : c.args.level < length s.queues = omega (arith, c.self.invariant.long, c.requires.level) in
    let found = read_is s.queues c.args.level c.index-self-level.result below in
    let was = queue-of_kept s.ports s.depth s.queues c.args.level ∙ ap (λ k. k.queue) (sym found) in
    let is = queue-set s.ports s.depth s.queues c.args.level c.serve.new.self below in
    rw (← c.self.view_is, is) (c.serve.ensures.spare ∙ ap (λ q. q.spare) (sym was))

pub invariant_of-self : goal.invariant_of-self
invariant_of-self c =
    let s = c.self.inside in
    let below : c.args.level < length s.queues = omega (arith, c.self.invariant.long, c.requires.level) in
    let old = slice_index_or s.queues c.args.level c.index-self-level.result in
    let found = read_is s.queues c.args.level c.index-self-level.result below in
    let kept : IsKept s.ports s.depth old = rw found (c.self.invariant.each c.args.level c.requires.level) in
    let after = c.serve.ensures in
    AreKept-set s.ports s.depth s.queues c.args.level _ below c.self.invariant
    (IsKept-served s.ports s.depth c.args.mask c.serve.result old c.serve.new.self kept
    (record { depth = after.depth; leaves = after.leaves; stays = after.stays; some = after.some }))
