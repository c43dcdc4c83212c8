use Rattle.std.proofs.Common.{◌≡◌, ℕ, map}
use Rattle.std.specs.List.{range_with_len}
use Rattle.simulated_slots.specs.Jobs.{JobValue}
use Rattle.simulated_runs.specs.Numbers.{batch_numbers}
use Rattle.simulated_runs.specs.SimulationSteps.{HasCountedDeparted}
use Rattle.simulated_runs.proofs.told.batches.Given as goal

abbrev pub invariant-loop-batch : goal.invariant-loop-batch
invariant-loop-batch l = (job : JobValue) (t : ℕ) → HasCountedDeparted job t l.departed
    → l.batches.items ≡ map (batch_numbers job t) (range_with_len 0 l.batch)
