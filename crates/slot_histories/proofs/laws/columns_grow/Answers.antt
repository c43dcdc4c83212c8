use Rattle.slot_histories.proofs.Growing.{column_of-grown}
use Rattle.slot_histories.proofs.laws.columns_grow.Goals as goal

pub returns : goal.returns
returns c = column_of-grown
