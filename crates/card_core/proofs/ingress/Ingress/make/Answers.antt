use Rattle.std.proofs.Common.{◌≡◌, ◌∙◌, ◌<◌, [], false, None, slice_get, length, refl, sym, ap, subst, arith}
use Rattle.card_core.specs.InputQueues.{QueueRooms}
use Rattle.card_core.specs.Plans.{Plan, IsGoodPlan, plan_of}
use Rattle.card_core.specs.States.{HasSent, state_of}
use Rattle.card_core.specs.StateSteps.{HasRooms}
use Rattle.voq_banks.specs.Queues.{empty_queues as empty_unis}
use Rattle.multicast_queue.specs.FanQueues.{empty_queues as empty_fans}
use Rattle.slot_match.specs.declared.rows.Row.{Row}
use Rattle.card_core.proofs.Plenty.{few_packets}
use Rattle.card_core.proofs.Beginning.{begins}
use Rattle.card_core.proofs.ingress.Ingress.make.Goals as goal
use Rattle.card_core.proofs.ingress.Ingress.make.Goals.{After-empty}

begun : (plan : Plan) (row : Row) (rooms : QueueRooms) → IsGoodPlan plan → HasRooms plan.ports plan.packets rooms.unicast rooms.multicast
    → HasSent (state_of plan 0 0 false None row 0 0 (empty_unis plan.ports plan.depth rooms.unicast)
    (empty_fans plan.ports plan.depth rooms.multicast)) [] false
begun plan row rooms good has =
    begins plan row rooms.unicast rooms.multicast good (λ j l inside below. let e = has.unis j l inside below in omega arith)
    (λ l below. let e = has.fans l below in omega arith)

made : (c : After-empty) → HasSent (state_of (plan_of c.args.plan) 0 0 false None c.empty.result 0 0 c.in_ok-queues.queues.unicast
    c.in_ok-queues.queues.multicast) [] false
made c =
    let plan = plan_of c.args.plan in
    let row = c.empty.result in
    let rooms = c.in_ok-rooms.rooms in
    let queues = c.in_ok-queues in
    let ports : rooms.ports ≡ plan.ports = c.in_ok-rooms.ensures.ports in
    let has = subst (λ ps. HasRooms plan.ports ps rooms.unicast rooms.multicast) c.deref.ensures.value c.in_ok-rooms.ensures.rooms in
    subst (λ b. HasSent (state_of plan 0 0 false None row 0 0 b queues.queues.multicast) [] false)
    (sym (queues.ensures.unicast ∙ ap (λ n. empty_unis n plan.depth rooms.unicast) ports))
    (subst (λ f. HasSent (state_of plan 0 0 false None row 0 0 (empty_unis plan.ports plan.depth rooms.unicast) f) [] false)
    (sym (queues.ensures.multicast ∙ ap (λ n. empty_fans n plan.depth rooms.multicast) ports)) (begun plan row rooms c.requires.good has))

pub count_rooms-requires : goal.count_rooms-requires
count_rooms-requires c =
    record {
      size = c.requires.good.size;
      few = let f = few_packets (plan_of c.args.plan) c.requires.good c.requires.small in let e = ap length c.deref.ensures.value in omega arith;
      packets = λ k packet there. let p = c.requires.good.packets k packet (ap (λ xs. slice_get xs k) (sym c.deref.ensures.value) ∙ there) in (p.level, p.fan);
    }

pub make-requires : goal.make-requires
make-requires c =
    record {
      some = subst (λ n. 0 < n) (sym c.in_ok-rooms.ensures.ports) c.requires.good.some;
      deep = c.requires.good.deep;
    }

pub invariant_of-result : goal.invariant_of-result
invariant_of-result c = ([], made (goal.at.invariant_of-result c).After-empty)

pub returns : goal.returns
returns c = record { sent = made (goal.at.returns c).After-empty; plan = refl }
