use Rattle.std.proofs.Common.{arith, ap, ◌∙◌, ◌≡◌, ◌++◌, length, length-take}
use Rattle.cell_cutter.specs.Messages.{message_header}
use Rattle.cell_cutter.specs.Cells.{padded}
use Rattle.cell_cutter.proofs.Payloads.{written_after}
use Rattle.cell_cutter.proofs.cutter.first_payload.Goals as goal

pub returns : goal.returns
returns c =
    let p = c.args.packet.now in
    let fronts = c.copy_from_slice.ensures.after ∙ c.header_of.ensures in
    let counts : length c.copy_from_slice-2.new.self ≡ c.args.count = ap length c.copy_from_slice-2.ensures.after
    ∙ (length-take c.args.count p.bytes.now ∙ omega arith) in
    written_after c.copy_from_slice.new.self c.copy_from_slice-2.new.self c.args.count c.copy_from_slice.ensures.len counts c.requires.room
    ∙ (ap (λ f. padded (f ++ c.copy_from_slice-2.new.self)) fronts
    ∙ ap (λ b. padded (message_header p.seconds p.nanos (length p.bytes.now) p.original ++ b)) c.copy_from_slice-2.ensures.after)
