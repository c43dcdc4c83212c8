use Rattle.slot_histories.proofs.SoundDecisions.{rows_kept, rows_kept-posted}
use Rattle.slot_histories.proofs.laws.rows_are_kept.Goals as goal

pub returns-clause-decided : goal.returns-clause-decided
returns-clause-decided c = rows_kept

pub returns-clause-posted : goal.returns-clause-posted
returns-clause-posted c = rows_kept-posted
