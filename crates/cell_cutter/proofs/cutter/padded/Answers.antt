use Rattle.cell_cutter.proofs.Payloads.{padded_after}
use Rattle.cell_cutter.proofs.cutter.padded.Goals as goal

pub returns : goal.returns
returns c = rw c.copy_from_slice.ensures.after (padded_after c.args.bytes.now c.requires)
