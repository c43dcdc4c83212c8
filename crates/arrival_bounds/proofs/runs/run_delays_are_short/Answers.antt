use Rattle.arrival_bounds.proofs.Bounds.{delays_by_pairs, delays_by_curves, delays_by_lines, delays_by_window, delays_by_all}
use Rattle.arrival_bounds.proofs.runs.run_delays_are_short.Goals as goal

pub returns : goal.returns
returns c =
    record {
      pairs = λ scheduler plan most run. delays_by_pairs scheduler plan run most;
      curves = λ scheduler plan most_in most_out most run. delays_by_curves scheduler plan run most_in most_out most;
      lines = λ scheduler plan most cells run. delays_by_lines scheduler plan run most cells;
      window = λ scheduler plan cells run. delays_by_window scheduler plan run cells;
      all = λ scheduler plan cells run. delays_by_all scheduler plan run cells;
    }
