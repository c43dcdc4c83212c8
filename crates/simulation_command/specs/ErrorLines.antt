-- Lines on standard error: that of each fault, and what giving a line leaves.
use Rattle.std.specs.Prelude.{◌≡◌, ◌⊎◌, ℕ, List, ◌++◌, Option, option_map, codes, decimal}
use Rattle.outside.specs.Contents.{Contents, append_err}
use Rattle.outside.specs.Faults.{Rose}
use Rattle.simulation_command.specs.declared.fault.CommandFault.{CommandFault}
use Rattle.simulation_command.specs.declared.fault.CommandFault.TheVariants.{Usage, TooManyCells, OutOfMemory, OutFault}

-- the line of each fault
abbrev pub line_of : CommandFault → List ℕ
line_of Usage = codes "usage: tiny_tera simulate [options] SEED SLOTS PORTS\n"
line_of (TooManyCells cells) = codes "too many cells: " ++ decimal cells ++ codes "\n"
line_of OutOfMemory = codes "out of memory\n"
line_of OutFault = codes "write fault: standard output\n"

-- Standard error was given a first part of the text, and all else is as before. It was given all of it, or the count of
-- failed calls of `err` rose.
pub record GivesLine (text : List ℕ) (old new : Option Contents) (was now : ℕ) : Type 0 where
  pub part : List ℕ
  pub rest : List ℕ
  pub splits : text ≡ part ++ rest
  pub given : new ≡ option_map (append_err part) old
  pub whole : (part ≡ text) ⊎ Rose was now
