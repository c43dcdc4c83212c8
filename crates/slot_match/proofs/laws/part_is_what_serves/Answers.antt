use Rattle.slot_match.proofs.ServedParts.{served_of-free, served_of-only, served_of-is, served_of-none}
use Rattle.slot_match.proofs.laws.part_is_what_serves.Goals as goal

pub returns-clause-part : goal.returns-clause-part
returns-clause-part c n i matched part whole = (served_of-is n matched whole i part, served_of-only n matched whole i part)

pub returns-clause-none : goal.returns-clause-none
returns-clause-none c n i matched whole = (served_of-none n matched whole i, served_of-free matched i)
