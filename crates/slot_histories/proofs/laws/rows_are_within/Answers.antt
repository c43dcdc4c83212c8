use Rattle.slot_histories.proofs.PostedRows.{rows_within}
use Rattle.slot_histories.proofs.laws.rows_are_within.Goals as goal

pub returns : goal.returns
returns c = rows_within
