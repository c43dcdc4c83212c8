use Rattle.service_bound.proofs.AnyQueue.{one_reached}
use Rattle.service_bound.proofs.laws.one_round_is_reached.Goals as goal

pub returns : goal.returns
returns c = λ n t i j level i_in j_in level_in size.
    one_reached n t i j level (record { input = i_in; output = j_in; level_in = level_in; size = size })
