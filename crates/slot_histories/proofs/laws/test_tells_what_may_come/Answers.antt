use Rattle.slot_histories.proofs.EventTests.{is_allowed-iff}
use Rattle.slot_histories.proofs.laws.test_tells_what_may_come.Goals as goal

pub returns : goal.returns
returns c = is_allowed-iff
