use Rattle.departure_bounds.proofs.Soon.{all_depart, queue_departs}
use Rattle.departure_bounds.proofs.laws.packets_depart_soon.Goals as goal

pub returns : goal.returns
returns c =
    let each = c.packets_depart.ensures in
    record {
      all = λ scheduler plan slots most run waits ends.
          all_depart scheduler plan run slots (each scheduler plan slots run.scheduling run.good ends) most waits;
      queue = λ scheduler plan slots i j l most run waits ends.
          queue_departs scheduler plan run slots (each scheduler plan slots run.scheduling run.good ends) i j l most waits;
    }
