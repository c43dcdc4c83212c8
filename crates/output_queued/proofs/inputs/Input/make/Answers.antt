use Rattle.std.proofs.Common.{◌∙◌, ◌<◌, map, length, ap, sym, subst, arith}
use Rattle.voq_banks.specs.Queues.{empty_queues as empty_unis}
use Rattle.multicast_queue.specs.FanQueues.{empty_queues as empty_fans}
use Rattle.card_core.specs.StateSteps.{HasRooms}
use Rattle.output_queued.specs.Switches.{planned_of}
use Rattle.output_queued.proofs.Sources.{begins_as}
use Rattle.output_queued.proofs.inputs.Input.make.Goals as goal

pub count_rooms-requires-clause-few : goal.count_rooms-requires-clause-few
count_rooms-requires-clause-few c = let few = c.requires.input.few in let e = ap length c.deref.ensures.value in
    omega arith

pub make-requires-clause-some : goal.make-requires-clause-some
make-requires-clause-some c = subst (λ n. 0 < n) (sym c.in_ok-rooms.ensures.ports) c.requires.some

pub returns-clause-before : goal.returns-clause-before
returns-clause-before c =
    let rooms = c.in_ok-rooms.rooms in
    begins_as c.args.n c.args.depth c.args.coming.items rooms c.in_ok-queues.queues c.requires
    (subst (λ ps. HasRooms c.args.n (map planned_of ps) rooms.unicast rooms.multicast) c.deref.ensures.value c.in_ok-rooms.ensures.rooms)
    (c.in_ok-queues.ensures.unicast ∙ ap (λ n. empty_unis n c.args.depth rooms.unicast) c.in_ok-rooms.ensures.ports)
    (c.in_ok-queues.ensures.multicast ∙ ap (λ n. empty_fans n c.args.depth rooms.multicast) c.in_ok-rooms.ensures.ports)
