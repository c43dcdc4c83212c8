use Rattle.std.proofs.Common.{inr, map}
use Rattle.std.proofs.lemmas.Result.{err_from_is_err_and}
use Rattle.pcap_records.specs.Captures.{IsCapture}
use Rattle.pcap_records.specs.Packets.{packet_in}
use Rattle.pcap_records.proofs.Outcomes.{captures_once, no_fault_of_a_capture, answer_to_capture, answer_to_fault}
use Rattle.pcap_records.proofs.reader.read_capture.Goals as goal
use Rattle.pcap_records.proofs.reader.read_capture.Goals.{In_ok-packets}

-- the capture that is read
read : (c : In_ok-packets)
    → IsCapture c.args.bytes.items c.in_ok-header.header.nano c.in_ok-header.header.link (map (packet_in c.args.bytes.items) c.in_ok-packets.packets.items)
read c = rw c.deref-2.ensures.value at c.in_ok-packets.ensures.found

pub returns-clause-every_capture : goal.returns-clause-every_capture
returns-clause-every_capture c nano link packets is =
    captures_once c.args.bytes.items c.in_ok-header.header.nano nano c.in_ok-header.header.link link
    (map (packet_in c.args.bytes.items) c.in_ok-packets.packets.items) packets (read c) is

pub returns-clause-every_fault : goal.returns-clause-every_fault
returns-clause-every_fault c fault is =
    no_fault_of_a_capture c.args.bytes.items c.in_ok-header.header.nano c.in_ok-header.header.link
    (map (packet_in c.args.bytes.items) c.in_ok-packets.packets.items) fault (read c) is

pub returns-in_err-header-clause-every_capture : goal.returns-in_err-header-clause-every_capture
returns-in_err-header-clause-every_capture c nano link packets is =
    let p = err_from_is_err_and c.from_residual.result c.from_residual.ensures.1 in
    rw (p.1, p.2) (answer_to_capture c.args.bytes.items c.in_err-header.field-0.0 nano link packets
    (inr (rw c.deref.ensures.value at c.in_err-header.ensures.fault)) is)

pub returns-in_err-header-clause-every_fault : goal.returns-in_err-header-clause-every_fault
returns-in_err-header-clause-every_fault c fault is =
    let p = err_from_is_err_and c.from_residual.result c.from_residual.ensures.1 in
    rw (p.1, p.2) (answer_to_fault c.args.bytes.items c.in_err-header.field-0.0 fault (inr (rw c.deref.ensures.value at c.in_err-header.ensures.fault)) is)

pub returns-in_err-packets-clause-every_capture : goal.returns-in_err-packets-clause-every_capture
returns-in_err-packets-clause-every_capture c nano link packets is =
    let p = err_from_is_err_and c.from_residual-in_err-packets.result c.from_residual-in_err-packets.ensures.1 in
    rw (p.1, p.2) (answer_to_capture c.args.bytes.items c.in_err-packets.field-0.0 nano link packets
    (rw c.deref-2.ensures.value at c.in_err-packets.ensures.fault) is)

pub returns-in_err-packets-clause-every_fault : goal.returns-in_err-packets-clause-every_fault
returns-in_err-packets-clause-every_fault c fault is =
    let p = err_from_is_err_and c.from_residual-in_err-packets.result c.from_residual-in_err-packets.ensures.1 in
    rw (p.1, p.2) (answer_to_fault c.args.bytes.items c.in_err-packets.field-0.0 fault (rw c.deref-2.ensures.value at c.in_err-packets.ensures.fault) is)
