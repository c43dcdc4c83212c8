use Rattle.std.proofs.Common.{◌∙◌, List, ap, sym}
use Rattle.std.specs.Prelude.{map}
use Rattle.pcap_records.specs.declared.capture.Stored.{Stored}
use Rattle.pcap_records.specs.Packets.{packet_in, packets_of}
use Rattle.switch_plan.specs.Traffic.{least_in}
use Rattle.switch_plan.proofs.Times.{least_time_next}
use Rattle.switch_plan.proofs.traffic.least_time.Goals as goal

pub loop-capture-preserved : goal.loop-capture-preserved
loop-capture-preserved c =
    let capture = c.capture-item.result in
    let k = c.loop-capture.capture-index in
    c.least_in-least.ensures capture.bytes.items
    ∙ ap (λ (xs : List Stored). least_in c.loop-capture.least (map (packet_in capture.bytes.items) xs)) c.deref.ensures.value
    ∙ ap (λ l. least_in l (packets_of capture)) c.loop-capture.invariant
    ∙ sym (least_time_next c.args.captures.now k capture c.loop-capture-test.true c.capture-item.is)
