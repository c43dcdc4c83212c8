use Rattle.std.proofs.Common.{◌+◌, List, take, subst, sym}
use Rattle.card_core.specs.declared.plan.Planned.{Planned}
use Rattle.packet_times.specs.MostSteps.{AreCounted, AreAllCounted}
use Rattle.packet_times.proofs.Counting.{no-input-counted, input-counted, inputs-counted}
use Rattle.packet_times.proofs.most.most_of_inputs.Goals as goal

pub loop-input-init : goal.loop-input-init
loop-input-init c = no-input-counted c.args.inputs.now

pub loop-input-preserved : goal.loop-input-preserved
loop-input-preserved c =
    let here = subst (λ (ps : List Planned). AreCounted ps c.in_ok-more.more) c.packets.ensures c.in_ok-more.ensures in
    subst (AreAllCounted (take (c.loop-input.input-index + 1) c.args.inputs.now)) (sym c.in_ok-rows.ensures.1)
    (input-counted c.args.inputs.now c.loop-input.input-index c.input-item.result c.loop-input.rows c.in_ok-more.more c.loop-input-test.true c.input-item.is
    c.loop-input.invariant here)

pub returns : goal.returns
returns c = inputs-counted c.args.inputs.now c.loop-input.input-index c.loop-input.rows c.loop-input-test.false c.loop-input.invariant
