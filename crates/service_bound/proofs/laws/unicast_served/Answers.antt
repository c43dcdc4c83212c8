use Rattle.eslip_rounds.specs.Slots.{AreMoved}
use Rattle.service_bound.proofs.Falling.{quiet_in}
use Rattle.service_bound.proofs.ServedInTime.{longest_service-bound}
use Rattle.service_bound.proofs.laws.unicast_served.Goals as goal

pub returns : goal.returns
returns c = λ n rounds t level i j places slots some i_in window alone.
    (longest_service-bound n rounds level i j some i_in).served t places slots
    (quiet_in AreMoved n rounds t level places slots (record { window = window; alone = alone }) j)
