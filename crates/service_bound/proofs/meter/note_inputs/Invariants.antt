use Rattle.std.proofs.Common.{◌≡◌, ℕ, ◌/◌, ◌%◌, List, Option, length}
use Rattle.rotating_pick.specs.PortSets.{Has}
use Rattle.rotating_pick.specs.declared.limits.TheConstants.{LEVELS}
use Rattle.slot_match.specs.declared.matching.Fed.{Fed}
use Rattle.service_bound.specs.Waits.{is_waiting}
use Rattle.service_bound.specs.MeterSteps.{queues_at, NotesSlot, HasParts}
use Rattle.service_bound.proofs.meter.note_inputs.Given as goal

abbrev pub invariant-loop-input : goal.invariant-loop-input
invariant-loop-input l = record {
  long : length l.queues.items ≡ length l.fn.queues.items;
  inside : (i : ℕ) → Has l.left i → Has l.inputs i;
  noted : (matched : List (Option Fed)) → HasParts (length l.rows) matched l.parts → (place : ℕ) → Has l.inputs (place / LEVELS)
      → (Has l.left (place / LEVELS) → ⊥)
      → NotesSlot l.count (λ j. is_waiting (record { rows = l.rows; matched = matched }) (place / LEVELS) j (place % LEVELS))
      (queues_at l.fn.queues.items place) (queues_at l.queues.items place);
  left : (place : ℕ) → Has l.left (place / LEVELS) → queues_at l.queues.items place ≡ queues_at l.fn.queues.items place;
  others : (place : ℕ) → (Has l.inputs (place / LEVELS) → ⊥) → queues_at l.queues.items place ≡ queues_at l.fn.queues.items place;
}

abbrev pub decreases-loop-input : goal.decreases-loop-input
decreases-loop-input l = l.left
