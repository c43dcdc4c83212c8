use Rattle.std.proofs.Common.{◌∙◌, take, ap, sym}
use Rattle.std.specs.Prelude.{map}
use Rattle.pcap_records.specs.Packets.{packet_in}
use Rattle.switch_plan.specs.Traffic.{earlier, least_in}
use Rattle.switch_plan.proofs.Times.{no_stored, least_next}
use Rattle.switch_plan.proofs.traffic.least_in.Goals as goal

pub loop-packet-preserved : goal.loop-packet-preserved
loop-packet-preserved c bytes =
    let packets = c.args.packets.now in
    let k = c.loop-packet.packet-index in
    c.earlier-least.ensures
    ∙ ap (λ l. earlier l c.time_of.result) (c.loop-packet.invariant bytes)
    ∙ ap (earlier (least_in c.args.least (map (packet_in bytes) (take k packets)))) (c.time_of.ensures.value bytes)
    ∙ sym (least_next c.args.least bytes packets k no_stored c.loop-packet-test.true)
