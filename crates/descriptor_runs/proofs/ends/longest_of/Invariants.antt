use Rattle.std.proofs.Common.{◌≡◌, ◌<◌, ℕ, List, length, get_or}
use Rattle.service_bound.specs.Waits.{NotedSlot, longest_wait}
use Rattle.service_bound.specs.MeterSteps.{HasNoted}
use Rattle.descriptor_runs.proofs.ends.longest_of.Given as goal

abbrev pub invariant-loop-level : goal.invariant-loop-level
invariant-loop-level l = record {
  size : length l.longest ≡ 4;
  waits : (slots : List NotedSlot) → HasNoted l.meter slots → (k : ℕ) → k < l.level → get_or l.longest k 0 ≡ longest_wait l.meter.ports k slots;
}
