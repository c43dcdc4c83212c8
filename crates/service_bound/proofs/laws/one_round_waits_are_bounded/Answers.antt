use Rattle.service_bound.proofs.OneRoundServed.{one_longest_wait-bound}
use Rattle.service_bound.proofs.laws.one_round_waits_are_bounded.Goals as goal

pub returns : goal.returns
returns c = λ n t level places slots ports window alone. one_longest_wait-bound n t level places slots ports (record { window = window; alone = alone })
