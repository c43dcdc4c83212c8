use Rattle.std.proofs.Common.{◌≡◌, ℕ, ◌+◌, ◌*◌, ◌<◌, ◌≤◌, ◌⊎◌, slice_index}
use Rattle.scheduler_c.specs.Waits.{word_at}
use Rattle.scheduler_c.proofs.waits.clear_place.Given as goal

abbrev pub invariant-loop-output : goal.invariant-loop-output
invariant-loop-output l = record {
  cleared : (j : ℕ) → j < l.output → word_at l.waits l.place j ≡ 0;
  others : (k : ℕ) → (k < 64 * l.place) ⊎ (64 * l.place + l.output ≤ k) → slice_index l.waits k ≡ slice_index l.initial.waits k;
}
