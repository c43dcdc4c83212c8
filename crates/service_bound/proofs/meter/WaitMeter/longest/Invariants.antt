use Rattle.std.proofs.Common.{◌≡◌, map}
use Rattle.std.specs.List.{range_with_len}
use Rattle.service_bound.specs.Waits.{greatest}
use Rattle.service_bound.specs.MeterSteps.{place_of, queues_at, longest_at}
use Rattle.service_bound.proofs.meter.WaitMeter.longest.Given as goal

abbrev pub invariant-loop-input : goal.invariant-loop-input
invariant-loop-input l = l.longest ≡ greatest
    (map (λ i. longest_at (queues_at l.self-inside.queues.items (place_of i l.level)) l.self-inside.count) (range_with_len 0 l.input))
