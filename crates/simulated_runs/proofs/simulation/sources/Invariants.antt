use Rattle.std.proofs.Common.{◌≡◌, map}
use Rattle.std.specs.List.{range_with_len}
use Rattle.made_traffic.specs.Sources.{source_before}
use Rattle.simulated_runs.proofs.simulation.sources.Given as goal

abbrev pub invariant-loop-input : goal.invariant-loop-input
invariant-loop-input l = l.sources.items ≡ map (λ i. source_before l.job.traffic l.job.seed i 0) (range_with_len 0 l.input)
