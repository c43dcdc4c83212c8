use Rattle.std.proofs.Common.{◌<◌, refl, sym, subst}
use Rattle.card_core.specs.Plans.{plan_of}
use Rattle.descriptor_runs.proofs.ServedInputs.{made}
use Rattle.descriptor_runs.proofs.inputs.Input.make.Goals as goal

pub make-requires : goal.make-requires
make-requires c = record {
  some = subst (λ n. 0 < n) (sym c.in_ok-rooms.ensures.ports) c.requires.good.some;
  deep = c.requires.good.deep;
}

pub returns : goal.returns
returns c = record {
  plan = refl;
  served = made (plan_of c.args.plan) c.in_ok-rooms.rooms c.in_ok-queues.queues c.requires.good c.in_ok-rooms.ensures.ports c.in_ok-rooms.ensures.rooms
      c.in_ok-queues.ensures.unicast c.in_ok-queues.ensures.multicast;
}
