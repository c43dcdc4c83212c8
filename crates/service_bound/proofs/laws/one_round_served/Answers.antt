use Rattle.eslip_rounds.specs.Slots.{AreMoved}
use Rattle.service_bound.proofs.Falling.{quiet_in}
use Rattle.service_bound.proofs.OneRoundServed.{one_bound}
use Rattle.service_bound.proofs.laws.one_round_served.Goals as goal

pub returns : goal.returns
returns c = λ n t level i j places slots i_in window alone.
    (one_bound n level i j i_in).served t places slots (quiet_in AreMoved n 1 t level places slots (record { window = window; alone = alone }) j)
