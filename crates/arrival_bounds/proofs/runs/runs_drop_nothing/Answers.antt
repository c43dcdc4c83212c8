use Rattle.arrival_bounds.proofs.Dropping.{drops_nothing, drops_nothing_by_window, drops_nothing_by_curves, drops_nothing_by_queues}
use Rattle.arrival_bounds.proofs.runs.runs_drop_nothing.Goals as goal

pub returns : goal.returns
returns c =
    let sized = c.runs_are_sized.ensures in
    let deep = c.greatest_depth_drops_nothing.ensures.any in
    let good = c.depths_are_good.ensures.good in
    record {
      any = λ scheduler plan window cells slots run. drops_nothing sized deep good scheduler plan run window cells slots;
      window = λ scheduler plan cells slots run. drops_nothing_by_window sized deep good scheduler plan run cells slots;
      lines = λ scheduler plan most_in most_out slots_in slots_out slots run.
          drops_nothing_by_curves sized deep good scheduler plan run most_in most_out slots_in slots_out slots;
      queues = λ scheduler plan most slots run. drops_nothing_by_queues sized deep good scheduler plan run most slots;
    }
