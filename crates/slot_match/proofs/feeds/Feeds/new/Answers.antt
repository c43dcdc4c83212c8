use Rattle.std.proofs.Common.{arith}
use Rattle.slot_match.proofs.FeedTables.{feeds_of-none}
use Rattle.slot_match.proofs.feeds.Feeds.new.Goals as goal

pub invariant_of-result : goal.invariant_of-result
invariant_of-result c = λ j e. absurd (c.new.ensures j e)

pub returns : goal.returns
returns c = feeds_of-none c.no_inputs.result c.new.result 255 (omega arith) c.no_inputs.ensures
