use Rattle.std.proofs.Common.{◌∙◌, ◌+◌, ap}
use Rattle.packet_times.proofs.Counting.{none-counted, one-counted, all-counted}
use Rattle.packet_times.proofs.most.most_of_packets.Goals as goal

pub loop-packet-init : goal.loop-packet-init
loop-packet-init c = none-counted c.args.packets.now

pub loop-packet-preserved : goal.loop-packet-preserved
loop-packet-preserved c =
    one-counted c.args.packets.now c.loop-packet.packet-index _ c.loop-packet.rows c.in_ok-rows.rows c.loop-packet-test.true
    c.loop-packet.invariant c.most_rows-more.ensures.narrow (c.in_ok-rows.ensures.1 ∙ ap (λ more. c.loop-packet.rows + more) c.most_rows-more.ensures.value)

pub returns : goal.returns
returns c = all-counted c.args.packets.now c.loop-packet.packet-index c.loop-packet.rows c.loop-packet-test.false c.loop-packet.invariant
