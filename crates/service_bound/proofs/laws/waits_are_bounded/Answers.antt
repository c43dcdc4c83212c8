use Rattle.service_bound.proofs.LongestWaits.{longest_wait-bound}
use Rattle.service_bound.proofs.laws.waits_are_bounded.Goals as goal

pub returns : goal.returns
returns c = λ n rounds t level places slots ports some window alone.
    longest_wait-bound n rounds t level places slots ports some (record { window = window; alone = alone })
