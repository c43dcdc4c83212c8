use Rattle.std.proofs.Common.{◌∙◌, ◌≢◌, ◌<◌, ◌≤◌, ◌+◌, ap, sym, subst, arith, slice_index_or, length}
use Rattle.rotating_pick.specs.PortSets.{Has, IsAmong}
use Rattle.rotating_pick.proofs.Bits.{no_member-zero}
use Rattle.multicast_queue.specs.FanQueues.{queue_at, queue_with}
use Rattle.multicast_queue.specs.FieldSteps.{IsKept}
use Rattle.multicast_queue.proofs.Levels.{read_is, queue-of_kept, queue-set, others-set, AreKept-set, MayEnter, IsKept-admitted}
use Rattle.multicast_queue.proofs.fan_queues.FanQueues.admit.Goals as goal

pub returns-clause-others : goal.returns-clause-others
returns-clause-others c =
    let s = c.self.inside in
    rw (← c.self.view_is) (others-set s.ports s.depth s.queues c.args.level c.admit.new.self)

pub returns-clause-queue : goal.returns-clause-queue
returns-clause-queue c =
    let s = c.self.inside in
    let below : c.args.level < length s.queues = omega (arith, c.self.invariant.long, c.requires.level) in
    let found = read_is s.queues c.args.level c.index-self-level.result below in
    let was = queue-of_kept s.ports s.depth s.queues c.args.level ∙ ap (λ k. k.queue) (sym found) in
    rw (← c.self.view_is)
    (queue-set s.ports s.depth s.queues c.args.level c.admit.new.self below ∙ ap (λ k. k.queue) c.admit.ensures
    ∙ ap (λ q. queue_with q c.args.packet c.args.cells c.args.fan) (sym was))

pub invariant_of-self : goal.invariant_of-self
invariant_of-self c =
    let s = c.self.inside in
    let below : c.args.level < length s.queues = omega (arith, c.self.invariant.long, c.requires.level) in
    let old = slice_index_or s.queues c.args.level c.index-self-level.result in
    let found = read_is s.queues c.args.level c.index-self-level.result below in
    let kept : IsKept s.ports s.depth old = rw found (c.self.invariant.each c.args.level c.requires.level) in
    let queue_is = ap (λ b. queue_at b c.args.level) (sym c.self.view_is) ∙ queue-of_kept s.ports s.depth s.queues c.args.level
    ∙ ap (λ k. k.queue) (sym found) in
    let fits : length old.queue.cells + c.args.cells ≤ s.depth =
    omega (arith, ap (λ q. length q.cells) queue_is, ap (λ b. b.depth) c.self.view_is, c.requires.fits) in
    let among : IsAmong s.ports c.args.fan = subst (λ b. IsAmong b.ports c.args.fan) (sym c.self.view_is) c.requires.among in
    let one = c.requires.several.one in
    let somewhere : c.args.fan ≢ 0 = λ none. no_member-zero one (subst (λ set. Has set one) none c.requires.several.has_one) in
    let may : MayEnter s.ports s.depth c.args.cells c.args.fan old =
    record { some = c.requires.some; fits = fits; somewhere = somewhere; among = among } in
    AreKept-set s.ports s.depth s.queues c.args.level _ below c.self.invariant
    (rw c.admit.ensures (IsKept-admitted s.ports s.depth c.args.packet c.args.cells c.args.fan old kept may))
