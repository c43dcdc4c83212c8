use Rattle.std.proofs.Common.{◌≡◌, ℕ, ◌<◌, ◌↔◌, length, slice_index}
use Rattle.rotating_pick.specs.PortSets.{Has}
use Rattle.rotating_pick.specs.declared.limits.TheConstants.{MAX_PORTS}
use Rattle.random_picks.proofs.matching.asked_by.Given as goal

abbrev pub invariant-loop-j : goal.invariant-loop-j
invariant-loop-j l = record {
  long : length l.asked ≡ MAX_PORTS;
  sets : (k : ℕ) → k < l.j → (i : ℕ) → Has (slice_index l.asked k) i ↔ (Has l.outputs k × Has (slice_index l.columns k) i × Has l.inputs i);
}
