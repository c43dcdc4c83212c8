use Rattle.std.proofs.Common.{length}
use Rattle.simulated_slots.specs.DepartureSteps.{HaveServed}
use Rattle.simulated_slots.proofs.departed.Departed.serve.Given as goal

abbrev pub invariant-loop-output : goal.invariant-loop-output
invariant-loop-output l =
    HaveServed l.slot l.batch l.arbiter.discipline l.arbiter.matched l.output (length l.fn.self.batches.delays) l.fn.queues l.queues l.fn.self l.self
