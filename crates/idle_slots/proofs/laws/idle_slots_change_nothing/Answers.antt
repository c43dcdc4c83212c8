use Rattle.idle_slots.proofs.IdleRuns.{idle_slots}
use Rattle.idle_slots.proofs.laws.idle_slots_change_nothing.Goals as goal

pub returns : goal.returns
returns c scheduler plan t u scheduling quiet good some idle none = idle_slots scheduler scheduling quiet plan good t u some idle none
