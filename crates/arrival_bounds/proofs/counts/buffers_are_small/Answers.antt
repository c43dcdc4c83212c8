use Rattle.arrival_bounds.proofs.Buffers.{lines_hold, lines_hold_by_curves}
use Rattle.arrival_bounds.proofs.counts.buffers_are_small.Goals as goal

pub returns : goal.returns
returns c =
    record {
      one = λ n levels slots most_in most_out came gone served some come small.
          lines_hold n levels came gone served slots most_in most_out come some small;
      lines = λ n levels most_in most_out slots_in slots_out came gone served.
          lines_hold_by_curves n levels came gone served most_in most_out slots_in slots_out;
    }
