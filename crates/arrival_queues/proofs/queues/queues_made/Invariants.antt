use Rattle.std.proofs.Common.{◌≡◌, map}
use Rattle.std.specs.List.{range_with_len}
use Rattle.arrival_queues.specs.FieldSteps.{queue_made}
use Rattle.arrival_queues.proofs.queues.queues_made.Given as goal

abbrev pub invariant-loop-place : goal.invariant-loop-place
invariant-loop-place l = l.queues.items ≡ map (queue_made l.queueing l.ports l.depth) (range_with_len 0 l.place)
