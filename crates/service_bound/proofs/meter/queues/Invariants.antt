use Rattle.std.proofs.Common.{◌≡◌, replicate}
use Rattle.service_bound.specs.MeterSteps.{queues_at_first}
use Rattle.service_bound.proofs.meter.queues.Given as goal

abbrev pub invariant-loop : goal.invariant-loop
invariant-loop l = l.queues.items ≡ replicate l.counter queues_at_first
