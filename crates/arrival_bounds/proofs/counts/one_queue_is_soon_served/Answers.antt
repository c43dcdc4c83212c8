use Rattle.arrival_bounds.proofs.Delays.{one_queue}
use Rattle.arrival_bounds.proofs.counts.one_queue_is_soon_served.Goals as goal

pub returns : goal.returns
returns c = λ n levels i j l most came gone served i_in j_in l_in few. one_queue n levels most came gone served i j l i_in j_in l_in few
