use Rattle.arrival_bounds.proofs.Bounds.{delays_by_held, delays_by_third}
use Rattle.arrival_bounds.proofs.runs.small_buffers_are_soon_empty.Goals as goal

pub returns : goal.returns
returns c =
    record {
      held = λ scheduler plan held_in held_out most run. delays_by_held scheduler plan run held_in held_out most;
      third = λ scheduler plan slots cells run. delays_by_third scheduler plan run slots cells;
    }
