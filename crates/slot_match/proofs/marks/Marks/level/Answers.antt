use Rattle.std.proofs.Common.{refl}
use Rattle.slot_match.specs.FieldSteps.{level_at}
use Rattle.slot_match.proofs.marks.Marks.level.Goals as goal

pub returns : goal.returns
unfolding level_at
returns c = rw (c.bit.ensures, c.bit-2.ensures) refl
