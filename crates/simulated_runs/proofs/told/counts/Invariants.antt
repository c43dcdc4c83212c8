use Rattle.std.proofs.Common.{◌≡◌}
use Rattle.std.specs.Prelude.{filter_map}
use Rattle.std.specs.List.{range_with_len}
use Rattle.delay_counts.specs.CountSteps.{count_at}
use Rattle.simulated_runs.proofs.told.counts.Given as goal

abbrev pub invariant-loop-place : goal.invariant-loop-place
invariant-loop-place l = l.counts.items ≡ filter_map (count_at l.delays) (range_with_len 0 l.place)
