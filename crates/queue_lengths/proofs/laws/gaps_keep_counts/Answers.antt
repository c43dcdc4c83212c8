use Rattle.queue_lengths.proofs.Gaps.{kept-counts}
use Rattle.queue_lengths.proofs.laws.gaps_keep_counts.Goals as goal

pub returns : goal.returns
returns c plan counters served later slot next was now ahead parts apart same = kept-counts plan served later slot next now ahead parts counters was apart same
