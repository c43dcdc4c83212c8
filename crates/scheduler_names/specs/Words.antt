-- The names of the schedulers on the command line.
use Rattle.std.specs.Prelude.{ℕ, if◌then◌else◌, List, Option, None, Some, bytes_eq, codes}
use Rattle.scheduler_names.specs.declared.names.SchedulerName.{SchedulerName}
use Rattle.scheduler_names.specs.declared.names.SchedulerName.TheVariants.{Islip, Firm, Rrm}

-- the name of a scheduler
abbrev pub scheduler_word : SchedulerName → List ℕ
scheduler_word Islip = codes "islip"
scheduler_word Firm = codes "firm"
scheduler_word Rrm = codes "rrm"

-- the scheduler of a name
abbrev pub scheduler_named : List ℕ → Option SchedulerName
scheduler_named word =
    if bytes_eq word (codes "islip") then Some Islip
    else (if bytes_eq word (codes "firm") then Some Firm
    else (if bytes_eq word (codes "rrm") then Some Rrm
    else None))
