use Rattle.idle_slots.proofs.QuietSchedulers.{IsQuiet-named}
use Rattle.idle_slots.proofs.laws.quiet_decisions.Goals as goal

pub returns : goal.returns
returns c = IsQuiet-named
