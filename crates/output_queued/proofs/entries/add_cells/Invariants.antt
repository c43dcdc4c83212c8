use Rattle.std.proofs.Common.{◌≡◌, ℕ, Some, length}
use Rattle.rotating_pick.specs.PortSets.{Has}
use Rattle.output_queued.specs.NotingSteps.{tally_at}
use Rattle.output_queued.specs.Steps.{cells_to, with_cells}
use Rattle.output_queued.proofs.entries.add_cells.Given as goal

abbrev pub invariant-loop-output : goal.invariant-loop-output
invariant-loop-output l = record {
  long : length l.tallies.items ≡ length l.fn.tallies.items;
  inside : (j : ℕ) → Has l.left j → Has l.packet.fan j;
  left : (j : ℕ) → Has l.left j → tally_at l.tallies.items j ≡ tally_at l.fn.tallies.items j;
  done : (j : ℕ) → (Has l.left j → ⊥) → tally_at l.tallies.items j ≡ with_cells (tally_at l.fn.tallies.items j) (cells_to (Some l.packet) j);
}

abbrev pub decreases-loop-output : goal.decreases-loop-output
decreases-loop-output l = l.left
