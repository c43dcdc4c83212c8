use Rattle.std.proofs.Common.{◌≡◌, ℕ, ◌/◌, ◌%◌, ◌<◌, ◌≤◌, List, Option, length}
use Rattle.rotating_pick.specs.declared.limits.TheConstants.{LEVELS}
use Rattle.slot_match.specs.declared.matching.Fed.{Fed}
use Rattle.slot_match.specs.Matches.{IsMatch}
use Rattle.slot_match.specs.Parts.{served_of}
use Rattle.service_bound.specs.Waits.{is_waiting}
use Rattle.service_bound.specs.MeterSteps.{place_of, queues_at, NotesSlot}
use Rattle.service_bound.proofs.meter.note_input.Given as goal

abbrev pub invariant-loop-level : goal.invariant-loop-level
invariant-loop-level l = record {
  long : length l.queues.items ≡ length l.fn.queues.items;
  before : (place : ℕ) → place < place_of l.input 0 → queues_at l.queues.items place ≡ queues_at l.fn.queues.items place;
  noted : (matched : List (Option Fed)) → IsMatch (length l.rows) matched → l.served ≡ served_of matched l.input
      → (place : ℕ) → place_of l.input 0 ≤ place → place < place_of l.input l.level
      → NotesSlot l.count (λ j. is_waiting (record { rows = l.rows; matched = matched }) (place / LEVELS) j (place % LEVELS))
      (queues_at l.fn.queues.items place) (queues_at l.queues.items place);
  left : (place : ℕ) → place_of l.input l.level ≤ place → queues_at l.queues.items place ≡ queues_at l.fn.queues.items place;
}
