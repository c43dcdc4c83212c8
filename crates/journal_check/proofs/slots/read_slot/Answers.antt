use Rattle.journal_check.proofs.SlotLoops.{slot_outcome}
use Rattle.journal_check.proofs.slots.read_slot.Goals as goal

pub returns : goal.returns
returns c =
    let posts = c.in_ok-outputs_at.ensures in
    record {
      read = slot_outcome c.args.ports c.args.bytes.now c.args.at c.in_ok-outputs_at.outputs_at
          (record { rows = c.read_posts.new.rows; more = c.read_posts.new.more; fed = c.read_outputs.new.fed }) c.read_outputs.result
          (record { posts = posts.0; reads = posts.1; rows = posts.2; more = posts.3 }) c.read_outputs.ensures;
    }
