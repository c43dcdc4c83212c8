use Rattle.std.proofs.Common.{◌≡◌, ℕ, ◌*◌, ◌<◌, ◌≤◌, ◌==◌, slice_index}
use Rattle.std.specs.Int.{bit_at}
use Rattle.rotating_pick.specs.declared.limits.TheConstants.{LEVELS, MAX_PORTS}
use Rattle.scheduler_c.specs.Waits.{IsLongest, word_at, wait_next}
use Rattle.scheduler_c.proofs.waits.note_all.Given as goal

abbrev pub invariant-loop-place : goal.invariant-loop-place
invariant-loop-place l = record {
  noted : (k j : ℕ) → k < l.place → j < MAX_PORTS → word_at l.waits k j ≡ wait_next (bit_at (slice_index l.sets k) j == 1) (word_at l.initial.waits k j);
  left : (k : ℕ) → 64 * l.place ≤ k → slice_index l.waits k ≡ slice_index l.initial.waits k;
  longest : (level : ℕ) → level < LEVELS → IsLongest level l.place l.waits (slice_index l.initial.longest level) (slice_index l.longest level);
}
