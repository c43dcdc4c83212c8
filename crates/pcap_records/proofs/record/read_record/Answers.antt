use Rattle.std.proofs.Common.{refl, ◌+◌, arith, drop}
use Rattle.std.proofs.lemmas.List.{length-drop}
use Rattle.pcap_records.specs.Faults.{in_bytes}
use Rattle.pcap_records.proofs.Whole.{HeaderAt, stored}
use Rattle.pcap_records.proofs.record.read_record.Goals as goal
use Rattle.pcap_records.proofs.record.read_record.Goals.{After-record_header_at-header}

abbrev header : (c : After-record_header_at-header) → HeaderAt c.args.order c.args.bytes.now c.args.at
header c =
    let h = c.record_header_at-header.result in
    record {
      captured = h.captured;
      announced = record { seconds = h.seconds; fraction = h.fraction; original = h.original; spelled = c.record_header_at-header.ensures };
      seconds = omega arith;
      fraction = omega arith;
      original = omega arith;
      fits = omega arith;
    }

pub returns-then-len-left-clause-fault : goal.returns-then-len-left-clause-fault
returns-then-len-left-clause-fault c =
    let h = header (goal.at.returns-then-len-left-clause-fault c).After-record_header_at-header in
    let next = c.args.at + 16 in
    (refl, in_bytes h.captured (drop next c.args.bytes.now) h.announced (omega arith) (omega (arith, length-drop next c.args.bytes.now)))

pub returns-clause-found : goal.returns-clause-found
returns-clause-found c =
    let h = header (goal.at.returns-clause-found c).After-record_header_at-header in
    rw c.nanos_in.ensures (stored c.args.order c.args.nano c.args.bytes.now c.args.at h (omega arith) (omega arith))
