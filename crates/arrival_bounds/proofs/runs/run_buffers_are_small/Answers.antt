use Rattle.std.proofs.Common.{ℕ, ◌≤◌, arith}
use Rattle.arrival_bounds.proofs.Bounds.{buffers_by_lines, buffers_by_window, buffers_by_curves}
use Rattle.arrival_bounds.proofs.Dropping.{deepest_few}
use Rattle.arrival_bounds.proofs.runs.run_buffers_are_small.Goals as goal

pub returns : goal.returns
returns c =
    record {
      any = λ scheduler plan slots cells run. buffers_by_lines scheduler plan run slots cells;
      window = λ scheduler plan cells run. buffers_by_window scheduler plan run cells;
      lines = λ scheduler plan most_in most_out slots_in slots_out run. buffers_by_curves scheduler plan run most_in most_out slots_in slots_out;
      deepest = λ scheduler plan cells slots run holds. deepest_few scheduler plan run cells (λ i. cells) (λ j. cells) slots holds (λ i inside. same cells);
    } where
      same : (x : ℕ) → x ≤ x
      same x = omega arith
