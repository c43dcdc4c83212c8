use Rattle.std.proofs.Common.{sym}
use Rattle.simulated_slots.proofs.Serving.{head-came}
use Rattle.simulated_slots.proofs.departed.Departed.leave.Goals as goal

pub note-requires-clause-came : goal.note-requires-clause-came
note-requires-clause-came c = head-came _ c.args.queues.now _ c.in-Some-Some.cell c.requires.came (sym c.in-Some-Some.ensures.value)

pub returns-in-Some-Some-clause-sizes : goal.returns-in-Some-Some-clause-sizes
returns-in-Some-Some-clause-sizes c = λ most has. c.note.ensures.sizes _ _ most has
