use Rattle.std.proofs.Common.{◌≡◌, ℕ, ◌*◌, ◌<◌}
use Rattle.slot_match.specs.Rows.{AreWithin}
use Rattle.scheduler_c.specs.ManySlots.{of_slot}
use Rattle.scheduler_c.proofs.many_slots.are_many_rows.Given as goal

abbrev pub invariant-loop-s : goal.invariant-loop-s
invariant-loop-s l = record {
  place : l.at ≡ l.s * l.n;
  within : (s : ℕ) → s < l.s → AreWithin l.n (of_slot l.n s l.rows);
}
