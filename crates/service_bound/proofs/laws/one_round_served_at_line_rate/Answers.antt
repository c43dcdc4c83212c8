use Rattle.std.proofs.Common.{arith}
use Rattle.eslip_rounds.specs.Slots.{AreMoved}
use Rattle.service_bound.proofs.Falling.{line_rate_in}
use Rattle.service_bound.proofs.OneRoundServedAtLineRate.{one_bound-at_line_rate}
use Rattle.service_bound.proofs.laws.one_round_served_at_line_rate.Goals as goal

pub returns : goal.returns
returns c = λ n t level i j places slots more i_in window alone gains named long.
    (one_bound-at_line_rate n level i j more i_in).served t places slots
    (line_rate_in AreMoved n 1 t level places slots (record { window = window; alone = alone }) gains) named (omega (arith, long))
