use Rattle.std.proofs.Common.{◌≡◌, ℕ, ◌<◌, [], map, length, slice_index_or}
use Rattle.card_core.specs.Plans.{plan_of}
use Rattle.run_laws.specs.Runs.{no_plan}
use Rattle.queue_measures.specs.NotingSteps.{IsNoted, no_input}
use Rattle.queue_measures.proofs.measures.QueueMeasures.make.Given as goal

abbrev pub invariant-loop-card : goal.invariant-loop-card
invariant-loop-card l = record {
  long : length l.inputs.items ≡ l.card-index;
  noted : (i : ℕ) → i < l.card-index → IsNoted (slice_index_or (map plan_of l.plan.cards.items) i no_plan) (slice_index_or l.inputs.items i no_input) [];
}
