use Rattle.std.proofs.Common.{◌≡◌, ℕ, length, slice_index}
use Rattle.rotating_pick.specs.PortSets.{Has}
use Rattle.service_bound.proofs.level_queues.begin.Given as goal

abbrev pub invariant-loop-output : goal.invariant-loop-output
invariant-loop-output l = record {
  long : length l.began ≡ length l.fn.began;
  inside : (j : ℕ) → Has l.left j → Has l.outputs j;
  begun : (j : ℕ) → Has l.outputs j → (Has l.left j → ⊥) → slice_index l.began j ≡ l.count;
  others : (j : ℕ) → (Has l.outputs j → ⊥) → slice_index l.began j ≡ slice_index l.fn.began j;
}

abbrev pub decreases-loop-output : goal.decreases-loop-output
decreases-loop-output l = l.left
