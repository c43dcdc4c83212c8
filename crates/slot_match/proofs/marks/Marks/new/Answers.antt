use Rattle.rotating_pick.proofs.Bits.{no_member-zero}
use Rattle.slot_match.proofs.MarkBits.{kind_at-multi}
use Rattle.slot_match.proofs.marks.Marks.new.Goals as goal

pub returns : goal.returns
returns c j e = no_member-zero j ((kind_at-multi (record { low = 0; high = 0; multi = 0 }) j).0 e)
