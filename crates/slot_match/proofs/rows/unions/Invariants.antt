use Rattle.std.proofs.Common.{◌≡◌, ℕ, ◌<◌, ◌≤◌, ◌↔◌, ◌⊎◌, length, slice_index}
use Rattle.rotating_pick.specs.PortSets.{Has}
use Rattle.rotating_pick.specs.declared.limits.TheConstants.{LEVELS}
use Rattle.slot_match.proofs.rows.unions.Given as goal

abbrev pub invariant-loop-level : goal.invariant-loop-level
invariant-loop-level l = record {
  long : length l.both ≡ LEVELS;
  done : (m j : ℕ) → m < l.level → Has (slice_index l.both m) j ↔ (Has (slice_index l.a m) j ⊎ Has (slice_index l.b m) j);
  later : (m : ℕ) → l.level ≤ m → slice_index l.both m ≡ slice_index l.a m;
}
