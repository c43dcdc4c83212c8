use Rattle.std.proofs.Common.{◌≡◌, ◌-◌, ◌+◌, ◌++◌, ◌∙◌, ap, take, drop, arith, rules}
use Rattle.descriptor_runs.proofs.Records.{HasNumbers, record_more}
use Rattle.descriptor_runs.proofs.outputs.put_record.Goals as goal

pub returns : goal.returns
returns c = λ link messages.
    let packet = c.args.packet.now in
    let len : packet.start + packet.len - packet.start ≡ packet.len = omega arith in
    let fits : HasNumbers packet = record { seconds = search rules; nanos = search rules; original = search rules } in
    record_more c.args.nano link messages packet c.args.bytes.now c.header_of.result c.args.text.now.items c.extend_from_slice.new.self.items
    c.extend_from_slice-2.new.self.items fits c.requires.place c.header_of.ensures c.in_ok-extend_from_slice.ensures.items
    (c.in_ok-extend_from_slice-2.ensures.items
    ∙ ap (λ k. c.extend_from_slice.new.self.items ++ take k (drop packet.start c.args.bytes.now)) len)
