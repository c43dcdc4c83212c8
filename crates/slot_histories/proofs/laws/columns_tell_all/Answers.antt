use Rattle.slot_histories.proofs.Telling.{IsTold-legal}
use Rattle.slot_histories.proofs.laws.columns_tell_all.Goals as goal

pub returns : goal.returns
returns c = IsTold-legal
