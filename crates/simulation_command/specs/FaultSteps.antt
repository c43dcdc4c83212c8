-- Which fault of the command the faults of its steps are.
use Rattle.std.specs.Prelude.{◌≡◌, Option, None, ⊤}
use Rattle.command_words.specs.declared.fault.WordsFault.{WordsFault}
use Rattle.command_words.specs.declared.fault.WordsFault.TheVariants as words
use Rattle.simulated_runs.specs.declared.fault.SimulationFault.{SimulationFault}
use Rattle.simulated_runs.specs.declared.fault.SimulationFault.TheVariants as run
use Rattle.simulation_words.specs.declared.reader.SimulationWords.{SimulationWords}
use Rattle.simulation_command.specs.declared.fault.CommandFault.{CommandFault}
use Rattle.simulation_command.specs.declared.fault.CommandFault.TheVariants.{Usage, TooManyCells, OutOfMemory, OutFault}
use Rattle.simulation_command.specs.Endings.{IsTooLarge}

-- that of words
abbrev pub words_fault : WordsFault → CommandFault
words_fault words.Usage = Usage
words_fault words.OutOfMemory = OutOfMemory

-- that of a run
abbrev pub run_fault : SimulationFault → CommandFault
run_fault (run.TooManyCells cells) = TooManyCells cells
run_fault run.OutOfMemory = OutOfMemory

-- why there is no text
abbrev pub IsRefused : Option SimulationWords → CommandFault → Type 0
IsRefused simulation Usage = simulation ≡ None
IsRefused simulation (TooManyCells cells) = IsTooLarge simulation cells
IsRefused simulation OutOfMemory = ⊤
IsRefused simulation OutFault = ⊥
