use Rattle.card_core.specs.Plans.{plan_of}
use Rattle.packet_times.specs.contracts.inputs.Input.{the_view}
use Rattle.packet_times.proofs.Arriving.{first-noted}
use Rattle.packet_times.proofs.inputs.Input.make.Goals as goal

pub returns : goal.returns
returns c = first-noted (plan_of c.args.plan.now)
    (the_view (record { queues = c.in_ok-queues.queues; admitted = c.in_ok-admitted.admitted })) c.requires.few c.in_ok-queues.ensures
    c.in_ok-admitted.ensures.items
