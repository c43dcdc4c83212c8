use Rattle.slot_histories.proofs.ServedParts.{served-part}
use Rattle.slot_histories.proofs.laws.parts_are_requested.Goals as goal

pub returns : goal.returns
returns c s events i t served some size legal = served-part s events some size legal i t served
