use Rattle.std.proofs.Common.{◌<◌, subst, arith, slice_index_or}
use Rattle.rotating_pick.specs.PortSets.{Has}
use Rattle.multicast_queue.specs.FieldSteps.{IsKept}
use Rattle.multicast_queue.proofs.Rests.{rest-in}
use Rattle.multicast_queue.proofs.Levels.{read_is}
use Rattle.multicast_queue.proofs.fan_queues.FanQueues.fan.Goals as goal

pub returns-clause-ports : goal.returns-clause-ports
returns-clause-ports c =
    λ output has. let s = c.self.inside in
    let old = slice_index_or s.queues c.args.level c.index-self-level.result in
    let found = read_is s.queues c.args.level c.index-self-level.result (omega (arith, c.self.invariant.long, c.requires)) in
    let kept : IsKept s.ports s.depth old = rw found (c.self.invariant.each c.args.level c.requires) in
    subst (λ b. output < b.ports) c.self.view_is
    (rest-in s.ports old.queue.rest old.queue.cells kept.fans kept.rests output (subst (λ set. Has set output) c.rest.ensures has))
