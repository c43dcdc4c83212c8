use Rattle.slot_match.proofs.KeepingParts.{KeepsRest-iff_keeps}
use Rattle.slot_match.proofs.laws.keeping_needs_only_the_part.Goals as goal

pub returns : goal.returns
returns c n i matched old new whole = KeepsRest-iff_keeps n matched whole i old new
