use Rattle.service_bound.proofs.AnyQueue.{more_reached}
use Rattle.service_bound.proofs.laws.more_rounds_are_reached.Goals as goal

pub returns : goal.returns
returns c = λ n rounds t i j level three i_in j_in level_in size many.
    more_reached n rounds t i j level three many (record { input = i_in; output = j_in; level_in = level_in; size = size })
