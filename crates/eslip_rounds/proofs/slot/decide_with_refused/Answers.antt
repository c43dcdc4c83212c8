use Rattle.std.proofs.Common.{refl}
use Rattle.eslip_rounds.proofs.slot.decide_with_refused.Goals as goal

pub returns-clause-refused : goal.returns-clause-refused
returns-clause-refused c = c.decide_asked-numbers.ensures.refused refl
