use Rattle.run_laws.proofs.BusySlots.{busy_matches}
use Rattle.run_laws.proofs.ends.busy_slots_match.Goals as goal

pub returns : goal.returns
returns c scheduler plan scheduling good i t inside busy = busy_matches scheduler scheduling plan good i t inside busy
