use Rattle.std.proofs.Common.{◌≡◌, ℕ, ◌<◌, length, slice_index}
use Rattle.scheduler_c.specs.Waits.{posted_at}
use Rattle.scheduler_c.proofs.queue_sets.posted_sets.Given as goal

abbrev pub invariant-loop-place : goal.invariant-loop-place
invariant-loop-place l = record {
  count : length l.sets ≡ 256;
  posted : (k : ℕ) → k < l.place → slice_index l.sets k ≡ posted_at l.rows k;
}
