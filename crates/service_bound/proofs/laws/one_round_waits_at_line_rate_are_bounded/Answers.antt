use Rattle.service_bound.proofs.OneRoundServedAtLineRate.{one_longest_wait-at_line_rate}
use Rattle.service_bound.proofs.laws.one_round_waits_at_line_rate_are_bounded.Goals as goal

pub returns : goal.returns
returns c = λ n t level places slots more window alone.
    one_longest_wait-at_line_rate n t level places slots more (record { window = window; alone = alone })
