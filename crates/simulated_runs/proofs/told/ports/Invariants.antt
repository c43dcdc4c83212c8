use Rattle.std.proofs.Common.{◌≡◌, ℕ, map}
use Rattle.std.specs.List.{range_with_len}
use Rattle.simulated_slots.specs.Jobs.{JobValue}
use Rattle.simulated_runs.specs.Numbers.{port_of}
use Rattle.simulated_runs.specs.SimulationSteps.{HasCountedDeparted, HasTakenIn}
use Rattle.simulated_runs.proofs.told.ports.Given as goal

abbrev pub invariant-loop-port : goal.invariant-loop-port
invariant-loop-port l = (job : JobValue) (t : ℕ) → HasTakenIn job t l.arrivals → HasCountedDeparted job t l.departed
    → l.ports.items ≡ map (port_of job t) (range_with_len 0 l.port)
