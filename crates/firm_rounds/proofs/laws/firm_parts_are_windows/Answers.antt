use Rattle.service_bound.proofs.PartsOfSchedules.{part_is_window_by}
use Rattle.firm_rounds.specs.Slots.{AreMovedByFirm}
use Rattle.firm_rounds.proofs.PointersKept.{firm_keep}
use Rattle.firm_rounds.proofs.laws.firm_parts_are_windows.Goals as goal

pub returns : goal.returns
returns c n rounds t level first count places slots = part_is_window_by AreMovedByFirm n rounds t level first count places slots (firm_keep n level)
