use Rattle.idle_slots.proofs.SkippedSlots.{skipped}
use Rattle.idle_slots.proofs.laws.gaps_can_be_skipped.Goals as goal

pub returns : goal.returns
returns c scheduler plan t u scheduling quiet good some idle none = skipped scheduler scheduling quiet plan good t u some idle none
