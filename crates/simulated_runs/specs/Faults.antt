-- Why a job is not simulated.
use Rattle.std.specs.Prelude.{◌≡◌, ◌<◌, ◌≤◌, ℕ, List, ◌++◌, codes, decimal}
use Rattle.arrival_queues.specs.declared.limits.TheConstants.{MAX_CELLS}
use Rattle.simulated_slots.specs.Jobs.{JobValue, places_of}
use Rattle.simulated_runs.specs.declared.fault.SimulationFault.{SimulationFault}
use Rattle.simulated_runs.specs.declared.fault.SimulationFault.TheVariants.{TooManyCells, OutOfMemory}

-- a job is refused for its queues where they would have places for too many cells, and as out of memory only where not
abbrev pub IsFaultOf : JobValue → SimulationFault → Type 0
IsFaultOf job (TooManyCells cells) = (MAX_CELLS < places_of job) × (cells ≡ places_of job)
IsFaultOf job OutOfMemory = places_of job ≤ MAX_CELLS

-- a fault's text
abbrev pub text_of : SimulationFault → List ℕ
text_of (TooManyCells cells) = codes "too many cells: " ++ decimal cells
text_of OutOfMemory = codes "out of memory"
