-- Files of the system, as contracts see them.
use Rattle.std.specs.Prelude.{List}
use Rattle.outside.specs.declared.memory_files.calls.CallCounts.{CallCounts}
use Rattle.outside.specs.Events.{Event}

-- How often calls of each kind failed, and the calls that went well, newest first.
pub record DiskState : Type 0 where
  pub faults : CallCounts
  pub calls : List Event
