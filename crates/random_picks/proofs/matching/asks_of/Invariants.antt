use Rattle.std.proofs.Common.{◌≡◌, ℕ, ◌<◌, length, slice_index}
use Rattle.rotating_pick.specs.declared.limits.TheConstants.{MAX_PORTS}
use Rattle.slot_match.specs.Rows.{row_of}
use Rattle.random_picks.proofs.matching.asks_of.Given as goal

abbrev pub invariant-loop-i : goal.invariant-loop-i
invariant-loop-i l = record {
  long : length l.sets ≡ MAX_PORTS;
  sets : (k : ℕ) → k < l.i → slice_index l.sets k ≡ slice_index (row_of l.rows k).uni 0;
}
