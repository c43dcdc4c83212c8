use Rattle.std.proofs.Common.{◌≡◌, ◌∙◌, sym, subst, refl}
use Rattle.rotating_pick.specs.PortSets.{Has}
use Rattle.rotating_pick.specs.declared.kinds.Kind.TheVariants.{Uni, Multi}
use Rattle.voq_banks.specs.Queues.{Waits}
use Rattle.card_core.specs.InputQueues.{InputQueues}
use Rattle.card_core.specs.StateSteps.{MayLeave, Leaves, LeavesUnicast}
use Rattle.multicast_queue.specs.FanQueues.{queue_at as fan_at}
use Rattle.rotating_pick.proofs.Members.{only_member}
use Rattle.card_core.proofs.Sets.{first-some}
use Rattle.card_core.proofs.queues.Queues.leave.Goals as goal

pub pop-requires-clause-waits : goal.pop-requires-clause-waits
pop-requires-clause-waits c =
    let may = subst (λ (q : InputQueues). MayLeave Uni q.unicast q.multicast c.args.part) (sym c.self.view_is)
    (subst (λ k. MayLeave k c.args.self.now.unicast c.args.self.now.multicast c.args.part) c.in-Uni.is c.requires) in
    let at : c.in-Some.output ≡ may.0 = only_member may.0 c.in-Some.output (subst (λ s. Has s c.in-Some.output) may.1 (c.in-Some.ensures).member) in
    subst (λ j. Waits c.self.inside.unicast j c.args.part.level) (sym at) may.4

pub returns-in-Some : goal.returns-in-Some
returns-in-Some c =
    let e = c.pop.ensures in
    subst (λ (q : InputQueues). Leaves c.args.part.kind c.args.part c.pop.result q.unicast q.multicast c.pop.new.self c.self.inside.multicast) c.self.view_is
    (subst (λ k. Leaves k c.args.part c.pop.result c.self.inside.unicast c.self.inside.multicast c.pop.new.self c.self.inside.multicast) (sym c.in-Uni.is) (
      λ j is.
          let at : c.in-Some.output ≡ j = only_member j c.in-Some.output (subst (λ s. Has s c.in-Some.output) is (c.in-Some.ensures).member) in
          subst (λ k. LeavesUnicast k c.args.part.level c.pop.result c.self.inside.unicast c.pop.new.self) at
          (record { queue = e.queue; spare = e.spare; others = e.others }),
      refl,
    ))

pub unreachable-requires-in_default-head : goal.unreachable-requires-in_default-head
unreachable-requires-in_default-head c =
    let may = subst (λ (q : InputQueues). MayLeave Multi q.unicast q.multicast c.args.part) (sym c.self.view_is)
    (subst (λ k. MayLeave k c.args.self.now.unicast c.args.self.now.multicast c.args.part) c.in-Multi.is c.requires) in
    first-some (fan_at c.self.inside.multicast c.args.part.level).cells may.0 (sym c.head.ensures ∙ c.in_default-head.is)
