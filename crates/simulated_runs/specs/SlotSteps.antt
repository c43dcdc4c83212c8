-- What is counted of whole slots.
use Rattle.std.specs.Prelude.{ℕ, ◌+◌, max, Bool, if◌then◌else◌}
use Rattle.islip_rounds.specs.declared.numbers.RoundsUsed.{RoundsUsed}
use Rattle.simulated_runs.specs.declared.numbers.WaitingNumbers.{WaitingNumbers}
use Rattle.simulated_runs.specs.declared.slot_counts.SlotCounts.{SlotCounts}

-- before the first slot
abbrev pub no_counts : SlotCounts
no_counts = record { most = 0; before = record { cells = 0; age = 0 }; cell_slots = 0; rounds_used = 0; first_pairs = 0 }

-- with what waits before a slot, where this is the first measured one
abbrev pub begun : Bool → WaitingNumbers → SlotCounts → SlotCounts
begun is_first waiting counts = record counts { before = if is_first then waiting else counts.before }

-- with the cells that wait when those of a slot have come
abbrev pub filled : ℕ → SlotCounts → SlotCounts
filled held counts = record counts { most = max counts.most held }

-- with a slot, where it is measured: its rounds, and the cells that wait when it ends
abbrev pub ended : Bool → RoundsUsed → ℕ → SlotCounts → SlotCounts
ended is_measured used held counts = record counts {
  cell_slots = counts.cell_slots + (if is_measured then held else 0);
  rounds_used = counts.rounds_used + (if is_measured then used.used else 0);
  first_pairs = counts.first_pairs + (if is_measured then used.first else 0);
}
