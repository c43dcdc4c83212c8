use Rattle.std.proofs.Common.{◌≡◌, ◌<◌, ℕ, [], length, slice_index_or}
use Rattle.switch_plan.specs.GoodPlans.{switch_plan_of}
use Rattle.run_laws.specs.Runs.{card_at}
use Rattle.packet_times.specs.NotingSteps.{IsNoted, no_input}
use Rattle.packet_times.proofs.inputs.inputs_of.Given as goal

abbrev pub invariant-loop-card : goal.invariant-loop-card
invariant-loop-card l = record {
  count : length l.inputs.items ≡ l.card-index;
  each : (i : ℕ) → i < l.card-index → IsNoted (card_at (switch_plan_of l.plan) i) (slice_index_or l.inputs.items i no_input) [];
}
