use Rattle.slot_records.proofs.Adding.{adds}
use Rattle.slot_records.proofs.laws.slots_add_records.Goals as goal

pub returns : goal.returns
returns c = λ scheduler plan j t scheduling good to. adds scheduler scheduling plan good j t to
