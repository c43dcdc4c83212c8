use Rattle.eslip_rounds.specs.Slots.{AreMoved}
use Rattle.maximal_matches.proofs.MaximalSlots.{slot_maximal, slot_unused}
use Rattle.maximal_matches.proofs.laws.matches_are_maximal.Goals as goal

pub returns : goal.returns
returns c = record { enough = slot_maximal AreMoved; unused = slot_unused AreMoved }
