-- How a command ends, and what each ending means.
use Rattle.std.specs.Prelude.{◌≡◌, ◌<◌, ◌≤◌, ℕ, if◌then◌else◌, List, [], ◌∷◌, take, Option, None, Some, option_map, bytes_eq, codes}
use Rattle.arrival_queues.specs.declared.limits.TheConstants.{MAX_CELLS}
use Rattle.outside.specs.Contents.{Contents, append_out}
use Rattle.outside.specs.Faults.{Place, ToOut, ToErr, Rose}
use Rattle.simulated_slots.specs.Jobs.{places_of}
use Rattle.simulated_runs.specs.Numbers.{numbers_of}
use Rattle.simulation_words.specs.Reading.{simulation_of}
use Rattle.simulation_words.specs.declared.reader.SimulationWords.{SimulationWords}
use Rattle.simulation_text.specs.Texts.{text_of}
use Rattle.simulation_command.specs.declared.fault.CommandFault.{CommandFault}
use Rattle.simulation_command.specs.declared.fault.CommandFault.TheVariants.{Usage, TooManyCells, OutOfMemory, OutFault}
use Rattle.simulation_command.specs.ErrorLines.{GivesLine, line_of}

-- the exit status of each fault
abbrev pub status_of : CommandFault → ℕ
status_of Usage = 2
status_of (TooManyCells cells) = 4
status_of OutOfMemory = 5
status_of OutFault = 6

-- the simulation that words mean, of which the first is the command; None where they mean none
abbrev pub simulation_by : List (List ℕ) → Option SimulationWords
simulation_by [] = None
simulation_by (command ∷ words) = if bytes_eq command (codes "simulate") then simulation_of words else None

-- what a command found and left: the simulation that its words mean, and the contents and the counts of faults before and
-- after
pub record Command : Type 0 where
  pub simulation : Option SimulationWords
  pub old : Option Contents
  pub new : Option Contents
  pub was : Place → ℕ
  pub now : Place → ℕ

-- the command of these words
abbrev pub command_of : List (List ℕ) → Option Contents → Option Contents → (Place → ℕ) → (Place → ℕ) → Command
command_of words old new was now = record { simulation = simulation_by words; old = old; new = new; was = was; now = now }

-- the words mean a simulation whose queues fit, and this is its text: that of its job with the job's numbers
pub record IsText (simulation : Option SimulationWords) (text : List ℕ) : Type 0 where
  pub words : SimulationWords
  pub means : simulation ≡ Some words
  pub fits : places_of words.job ≤ MAX_CELLS
  pub text_is : text ≡ text_of words.job words.histogram (numbers_of words.job)

-- the words mean a simulation whose queues would have places for so many cells, which are too many
pub record IsTooLarge (simulation : Option SimulationWords) (cells : ℕ) : Type 0 where
  pub words : SimulationWords
  pub means : simulation ≡ Some words
  pub places : cells ≡ places_of words.job
  pub over : MAX_CELLS < cells

-- standard output was given the text, and all else is as before
pub record IsDone (c : Command) : Type 0 where
  pub text : List ℕ
  pub made : IsText c.simulation text
  pub given : c.new ≡ option_map (append_out text) c.old

-- a call on standard output was refused, which was given a first part of the text
pub record StopsAtOut (c : Command) (new : Option Contents) : Type 0 where
  pub text : List ℕ
  pub made : IsText c.simulation text
  pub given : ℕ
  pub new_is : new ≡ option_map (append_out (take given text)) c.old
  pub rose : Rose (c.was ToOut) (c.now ToOut)

-- why a command stops, and what it has made of the contents by then
abbrev pub Stops : Command → Option Contents → CommandFault → Type 0
Stops c new Usage = (c.simulation ≡ None) × (new ≡ c.old)
Stops c new (TooManyCells cells) = IsTooLarge c.simulation cells × (new ≡ c.old)
Stops c new OutOfMemory = new ≡ c.old
Stops c new OutFault = StopsAtOut c new

-- the command stopped, and then the line of its fault was given to standard error
pub record IsStopped (c : Command) (fault : CommandFault) : Type 0 where
  pub seen : Option Contents
  pub stops : Stops c seen fault
  pub line : GivesLine (line_of fault) seen c.new (c.was ToErr) (c.now ToErr)
