-- The commands and their options.
use Rattle.std.specs.Prelude.{ℕ, Bool, true, false, if◌then◌else◌, List, [], ◌∷◌, Option, None, Some, option_and_then, bytes_eq, codes}
use Rattle.switch_words.specs.declared.options.Command.{Command}
use Rattle.switch_words.specs.declared.options.Command.TheVariants.{Run, Gen, Check, Firm}

-- an option with a value
pub data Setting : Type 0 where
  rounds depth workers pace_us line_rate scheduler : Setting

-- an option without a value
pub data Flag : Type 0 where
  slots journal reference queues packets alone long : Flag

pub data Switch : Type 0 where
  value : Setting → Switch
  flag : Flag → Switch

-- the command of a name
abbrev pub command_named : List ℕ → Option Command
command_named word =
    if bytes_eq word (codes "run") then Some Run
    else (if bytes_eq word (codes "gen") then Some Gen
    else (if bytes_eq word (codes "check") then Some Check
    else (if bytes_eq word (codes "firm") then Some Firm
    else None)))

-- the command that the first of a list of words names
abbrev pub command_in : List (List ℕ) → Option Command
command_in [] = None
command_in (first ∷ rest) = command_named first

-- the option of a name
abbrev pub option_named : List ℕ → Option Switch
option_named name =
    if bytes_eq (codes "rounds") name then Some (value rounds)
    else (if bytes_eq (codes "depth") name then Some (value depth)
    else (if bytes_eq (codes "workers") name then Some (value workers)
    else (if bytes_eq (codes "pace-us") name then Some (value pace_us)
    else (if bytes_eq (codes "line-rate") name then Some (value line_rate)
    else (if bytes_eq (codes "scheduler") name then Some (value scheduler)
    else (if bytes_eq (codes "slots") name then Some (flag slots)
    else (if bytes_eq (codes "journal") name then Some (flag journal)
    else (if bytes_eq (codes "reference") name then Some (flag reference)
    else (if bytes_eq (codes "queues") name then Some (flag queues)
    else (if bytes_eq (codes "packets") name then Some (flag packets)
    else (if bytes_eq (codes "alone") name then Some (flag alone)
    else (if bytes_eq (codes "long") name then Some (flag long)
    else None))))))))))))

-- whether a command has an option
abbrev pub is_option_of : Command → Switch → Bool
is_option_of Run switch = true
is_option_of Gen (value rounds) = true
is_option_of Gen (value depth) = true
is_option_of Gen (value workers) = true
is_option_of Gen (value pace_us) = false
is_option_of Gen (value line_rate) = false
is_option_of Gen (value scheduler) = true
is_option_of Gen (flag f) = false
is_option_of Check (value rounds) = false
is_option_of Check (value depth) = false
is_option_of Check (value workers) = false
is_option_of Check (value pace_us) = false
is_option_of Check (value line_rate) = false
is_option_of Check (value scheduler) = true
is_option_of Check (flag f) = false
is_option_of Firm (value rounds) = true
is_option_of Firm (value depth) = true
is_option_of Firm (value workers) = false
is_option_of Firm (value pace_us) = true
is_option_of Firm (value line_rate) = true
is_option_of Firm (value scheduler) = false
is_option_of Firm (flag slots) = false
is_option_of Firm (flag journal) = false
is_option_of Firm (flag reference) = false
is_option_of Firm (flag queues) = false
is_option_of Firm (flag packets) = false
is_option_of Firm (flag alone) = false
is_option_of Firm (flag long) = true

-- the option of a name that a command has
abbrev pub option_of : Command → List ℕ → Option Switch
option_of command name =
    option_and_then (λ switch. if is_option_of command switch then Some switch else None) (option_named name)
