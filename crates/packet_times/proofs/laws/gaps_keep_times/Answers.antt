use Rattle.packet_times.proofs.Gaps.{kept-times}
use Rattle.packet_times.proofs.laws.gaps_keep_times.Goals as goal

pub returns : goal.returns
returns c scheduler plan times slot next was gap = kept-times scheduler plan slot next gap times was
