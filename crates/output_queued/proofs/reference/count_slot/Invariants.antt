use Rattle.std.proofs.Common.{◌≡◌, ℕ, length, if◌then◌else◌}
use Rattle.std.specs.Prelude.{is_some}
use Rattle.rotating_pick.specs.PortSets.{Has}
use Rattle.slot_match.specs.Matches.{fed_of}
use Rattle.output_queued.specs.NotingSteps.{tally_at, IsUnserved}
use Rattle.output_queued.specs.Steps.{Ticks}
use Rattle.output_queued.proofs.reference.count_slot.Given as goal

abbrev pub invariant-loop-output : goal.invariant-loop-output
invariant-loop-output l = record {
  long : length l.tallies.items ≡ length l.fn.tallies.items;
  inside : (j : ℕ) → Has l.left j → Has l.fn.unserved j;
  left : (j : ℕ) → Has l.left j → tally_at l.tallies.items j ≡ tally_at l.fn.tallies.items j;
  done : (j : ℕ) → Has l.fn.unserved j → (Has l.left j → ⊥)
      → Ticks l.slot (if is_some (fed_of l.matched j) then 1 else 0) (tally_at l.fn.tallies.items j) (tally_at l.tallies.items j);
  others : (j : ℕ) → (Has l.fn.unserved j → ⊥) → tally_at l.tallies.items j ≡ tally_at l.fn.tallies.items j;
  unserved : IsUnserved l.unserved l.tallies.items;
}

abbrev pub decreases-loop-output : goal.decreases-loop-output
decreases-loop-output l = l.left
