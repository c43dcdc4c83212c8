use Rattle.std.proofs.Common.{inr, drop, arith}
use Rattle.std.proofs.lemmas.Result.{err_from_is_err_and}
use Rattle.pcap_records.specs.Format.{header_of}
use Rattle.pcap_records.proofs.Headers.{header_long}
use Rattle.pcap_records.proofs.Walk.{read_none, read_more, read_all, whole_before, broken}
use Rattle.pcap_records.proofs.reader.read_records.Goals as goal

pub loop-at-init : goal.loop-at-init
loop-at-init c =
    let long = header_long c.args.bytes.now (header_of c.args.header.order c.args.header.nano c.args.header.link)
    (drop 24 c.args.bytes.now) c.requires.header in
    rw c.new-packets.ensures.items (read_none c.args.header.order c.args.header.nano c.args.bytes.now (omega arith))

pub returns-in_err-packet-clause-fault : goal.returns-in_err-packet-clause-fault
returns-in_err-packet-clause-fault c =
    let p = err_from_is_err_and c.from_residual.result c.from_residual.ensures.1 in
    let h = c.args.header in
    let before = whole_before h.order h.nano h.link c.args.bytes.now c.loop-at.at c.loop-at.packets.items c.requires.header c.loop-at.invariant in
    rw (p.1, p.2) (inr (broken h.order c.args.bytes.now c.loop-at.at c.in_err-packet.field-0.0 before c.in_err-packet.ensures.fault))

pub loop-at-preserved : goal.loop-at-preserved
loop-at-preserved c = rw c.in_ok-push.ensures.items
    (read_more c.args.header.order c.args.header.nano c.args.bytes.now c.loop-at.at c.loop-at.packets.items c.in_ok-packet.packet c.loop-at.invariant
    c.in_ok-packet.ensures.found)

pub returns-clause-found : goal.returns-clause-found
returns-clause-found c = read_all c.args.header.order c.args.header.nano c.args.header.link c.args.bytes.now c.loop-at.at c.loop-at.packets.items
    c.requires.header c.loop-at.invariant (omega arith)
