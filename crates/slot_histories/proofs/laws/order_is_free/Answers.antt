use Rattle.slot_histories.proofs.Ordering.{journal_of-same, takings_of-same}
use Rattle.slot_histories.proofs.laws.order_is_free.Goals as goal

pub returns-clause-journal : goal.returns-clause-journal
returns-clause-journal c = journal_of-same

pub returns-clause-takings : goal.returns-clause-takings
returns-clause-takings c = takings_of-same
