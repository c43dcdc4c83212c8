use Rattle.std.proofs.Common.{◌≡◌, ℕ, ◌+◌, ◌*◌, ◌<◌, ◌≤◌, ◌⊎◌, ◌==◌, slice_index}
use Rattle.std.specs.Int.{bit_at}
use Rattle.scheduler_c.specs.Waits.{word_at, wait_next}
use Rattle.scheduler_c.proofs.waits.note_queues.Given as goal

abbrev pub invariant-loop-output : goal.invariant-loop-output
invariant-loop-output l = record {
  noted : (j : ℕ) → j < l.output → word_at l.waits l.place j ≡ wait_next (bit_at l.outputs j == 1) (word_at l.initial.waits l.place j);
  before : (k : ℕ) → k < 64 * l.place → slice_index l.waits k ≡ slice_index l.initial.waits k;
  left : (k : ℕ) → 64 * l.place + l.output ≤ k → slice_index l.waits k ≡ slice_index l.initial.waits k;
  bound : (j : ℕ) → j < l.output → word_at l.waits l.place j ≤ l.longest;
  reached : (l.longest ≡ 0) ⊎ ((j : ℕ) × (j < l.output) × (l.longest ≡ word_at l.waits l.place j));
}
