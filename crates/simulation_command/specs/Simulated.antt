-- What a command answers, and when each answer comes.
use Rattle.std.specs.Prelude.{◌≡◌, ◌<◌, ◌≤◌, ◌⊎◌, ℕ, None, Some}
use Rattle.arrival_queues.specs.declared.limits.TheConstants.{MAX_CELLS}
use Rattle.outside.specs.Faults.{ToOut, NeverFall, NoneRose, Rose}
use Rattle.simulated_slots.specs.Jobs.{places_of}
use Rattle.simulation_words.specs.declared.reader.SimulationWords.{SimulationWords}
use Rattle.simulation_command.specs.declared.fault.CommandFault.{CommandFault}
use Rattle.simulation_command.specs.Endings.{Command, IsDone, IsStopped, status_of}

-- the command was done, at status 0, or a fault stopped it, at the fault's status
abbrev pub Answers : Command → ℕ → Type 0
Answers c status = ((status ≡ 0) × IsDone c) ⊎ ((fault : CommandFault) × (status ≡ status_of fault) × IsStopped c fault)

-- Status 2 comes exactly where the words mean no simulation, unless memory runs out.
pub record UsageIsExact (c : Command) (status : ℕ) : Type 0 where
  pub only : status ≡ 2 → c.simulation ≡ None
  pub every : c.simulation ≡ None → (status ≡ 2) ⊎ (status ≡ 5)

-- where the queues would have places for too many cells, the answer says so, or memory ran out
abbrev pub TooLargeIsExact : Command → ℕ → Type 0
TooLargeIsExact c status = (s : SimulationWords) → c.simulation ≡ Some s → MAX_CELLS < places_of s.job → (status ≡ 4) ⊎ (status ≡ 5)

-- where the words mean a simulation whose queues fit, and no call on standard output was refused, it is done, or memory ran
-- out
abbrev pub IsComplete : Command → ℕ → Type 0
IsComplete c status = (s : SimulationWords) → c.simulation ≡ Some s → places_of s.job ≤ MAX_CELLS → (Rose (c.was ToOut) (c.now ToOut) → ⊥)
    → (status ≡ 0) ⊎ (status ≡ 5)

-- The theorem of the command: what it answers with this status, that at status 0 no count of refused calls rose, of any
-- kind or name, and when each answer comes.
pub record SimulationTheorem (c : Command) (status : ℕ) : Type 0 where
  pub meaning : Answers c status
  pub never_fall : NeverFall c.was c.now
  pub no_fault : status ≡ 0 → NoneRose c.was c.now
  pub usage : UsageIsExact c status
  pub too_large : TooLargeIsExact c status
  pub complete : IsComplete c status
