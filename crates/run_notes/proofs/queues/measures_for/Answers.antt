use Rattle.std.proofs.Common.{sym}
use Rattle.run_notes.proofs.queues.measures_for.Goals as goal

pub returns-in_ok-make : goal.returns-in_ok-make
returns-in_ok-make c = λ scheduler. record { there = sym c.if-is_wanted.true; holds = c.in_ok-make.ensures scheduler }
