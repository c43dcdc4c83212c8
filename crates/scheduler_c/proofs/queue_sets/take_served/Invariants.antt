use Rattle.std.proofs.Common.{◌≡◌, ℕ, ◌<◌, ◌↔◌, length, slice_index}
use Rattle.rotating_pick.specs.PortSets.{Has}
use Rattle.scheduler_c.specs.Waits.{IsServedFrom}
use Rattle.scheduler_c.proofs.queue_sets.take_served.Given as goal

abbrev pub invariant-loop-output : goal.invariant-loop-output
invariant-loop-output l = record {
  count : length l.sets ≡ 256;
  taken : (place j : ℕ) → place < 256
      → Has (slice_index l.sets place) j ↔ (Has (slice_index l.initial.sets place) j × (j < l.output → IsServedFrom l.feeds place j → ⊥));
}
