use Rattle.service_bound.proofs.HeadsComplete.{completes_by}
use Rattle.rrm_rounds.specs.Slots.{AreMovedByRrm}
use Rattle.rrm_rounds.proofs.PointersKept.{rrm_keep, rrm_pass}
use Rattle.rrm_rounds.proofs.laws.rrm_completes.Goals as goal

pub returns : goal.returns
returns c n rounds t level i places slots = completes_by AreMovedByRrm n rounds t level i places slots (rrm_keep n level) (rrm_pass n level)
