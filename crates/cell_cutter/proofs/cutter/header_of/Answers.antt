use Rattle.std.proofs.Common.{◌∙◌, refl}
use Rattle.cell_cutter.specs.Messages.{message_header}
use Rattle.cell_cutter.proofs.cutter.header_of.Goals as goal

pub returns : goal.returns
unfolding message_header
returns c =
    let seconds = c.copy_from_slice.ensures.after ∙ c.to_be_bytes.ensures in
    let nanos = c.copy_from_slice-2.ensures.after ∙ c.to_be_bytes-2.ensures in
    let captured = c.copy_from_slice-3.ensures.after ∙ c.to_be_bytes-3.ensures in
    let original = c.copy_from_slice-4.ensures.after ∙ c.to_be_bytes-4.ensures in
    rw (seconds, nanos, captured, original) refl
