use Rattle.service_bound.proofs.HeadsComplete.{completes_by}
use Rattle.firm_rounds.specs.Slots.{AreMovedByFirm}
use Rattle.firm_rounds.proofs.PointersKept.{firm_keep, firm_pass}
use Rattle.firm_rounds.proofs.laws.firm_completes.Goals as goal

pub returns : goal.returns
returns c n rounds t level i places slots = completes_by AreMovedByFirm n rounds t level i places slots (firm_keep n level) (firm_pass n level)
