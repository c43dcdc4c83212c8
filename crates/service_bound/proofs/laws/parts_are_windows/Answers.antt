use Rattle.service_bound.proofs.PartsOfSchedules.{part_is_window}
use Rattle.service_bound.proofs.laws.parts_are_windows.Goals as goal

pub returns : goal.returns
returns c = part_is_window
