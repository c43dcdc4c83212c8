use Rattle.std.proofs.Common.{◌≡◌, ℕ, ◌<◌, ◌≤◌, false, length}
use Rattle.service_bound.specs.MeterSteps.{queues_at, NotesSlot}
use Rattle.service_bound.proofs.meter.note_none.Given as goal

abbrev pub invariant-loop-place : goal.invariant-loop-place
invariant-loop-place l = record {
  long : length l.queues.items ≡ length l.fn.queues.items;
  noted : (place : ℕ) → place < l.place → NotesSlot l.count (λ j. false) (queues_at l.fn.queues.items place) (queues_at l.queues.items place);
  left : (place : ℕ) → l.place ≤ place → queues_at l.queues.items place ≡ queues_at l.fn.queues.items place;
}
