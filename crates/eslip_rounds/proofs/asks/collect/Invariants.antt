use Rattle.std.proofs.Common.{◌≡◌, ℕ, ◌<◌, length, slice_index}
use Rattle.rotating_pick.specs.declared.limits.TheConstants.{MAX_PORTS}
use Rattle.slot_match.specs.Rows.{sets_of, row_of}
use Rattle.eslip_rounds.proofs.asks.collect.Given as goal

abbrev pub invariant-loop-i : goal.invariant-loop-i
invariant-loop-i l = record {
  long : length l.collected ≡ MAX_PORTS;
  sets : (k : ℕ) → k < l.i → slice_index l.collected k ≡ slice_index (sets_of (row_of l.rows k) l.kind) l.level;
}
