-- How deep the queues of a switch must be: what a run of a plan says of the runs of the same plan with other depths.
use Rattle.std.specs.Prelude.{◌≡◌, ◌<◌, ◌≤◌, ℕ, map}
use Rattle.eslip_rounds.specs.Schedulers.{Scheduler}
use Rattle.slot_histories.specs.Slots.{decision_under}
use Rattle.card_core.specs.Plans.{Plan as CardPlan}
use Rattle.card_core.specs.Queues.{dropped}
use Rattle.queue_lengths.specs.Lengths.{greatest, deepest_of}
use Rattle.switch_plan.specs.GoodPlans.{SwitchPlan}
use Rattle.run_laws.specs.Runs.{ports_of, setup_for, card_at, parts_under, posts_under}
use Rattle.run_laws.specs.Ends.{IsLengthUnder}
use Rattle.run_laws.specs.Crossings.{cells_under}

-- what a card is to send, with queues of another depth
abbrev pub card_with_depth : ℕ → CardPlan → CardPlan
card_with_depth depth card = record card { depth = depth }

-- the same plan with queues of another depth
abbrev pub with_depth : ℕ → SwitchPlan → SwitchPlan
with_depth depth plan = record plan { depth = depth; cards = map (card_with_depth depth) plan.cards }

-- the greatest length of any queue in the first slots of the plan's run
abbrev pub deepest_under : Scheduler → SwitchPlan → ℕ → ℕ
deepest_under scheduler plan slots = greatest (λ i. deepest_of (card_at plan i) (parts_under scheduler plan i slots) slots) (ports_of plan)

-- no packet that arrives in the first slots is dropped
abbrev pub DropsNothing : Scheduler → SwitchPlan → ℕ → Type 0
DropsNothing scheduler plan slots = (i : ℕ) → i < ports_of plan → dropped (card_at plan i) (parts_under scheduler plan i slots) slots ≡ 0

-- The run of the other plan is the same for so many slots: its ports post the same in each, each decides the same, and the
-- same cells cross to each output; and the one run ends with the last of them where the other does.
pub record IsSameRun (scheduler : Scheduler) (plan other : SwitchPlan) (slots : ℕ) : Type 0 where
  pub posts : (i t : ℕ) → t < slots → posts_under scheduler other i t ≡ posts_under scheduler plan i t
  pub decisions : (t : ℕ) → t < slots
      → decision_under scheduler (setup_for other) (posts_under scheduler other) t ≡ decision_under scheduler (setup_for plan) (posts_under scheduler plan) t
  pub cells : (j : ℕ) → cells_under scheduler other j slots ≡ cells_under scheduler plan j slots
  pub ends : IsLengthUnder scheduler plan slots → IsLengthUnder scheduler other slots

-- The sizing theorem. Where a run drops nothing, let its deepest queue hold H cells. With each depth from H, and 1, on the
-- run is the same and drops nothing; with each smaller depth the run drops a packet.
pub record IsSized (scheduler : Scheduler) (plan : SwitchPlan) (slots : ℕ) : Type 0 where
  pub enough : DropsNothing scheduler plan slots → (depth : ℕ) → 0 < depth → deepest_under scheduler plan slots ≤ depth
      → DropsNothing scheduler (with_depth depth plan) slots × IsSameRun scheduler plan (with_depth depth plan) slots
  pub less : DropsNothing scheduler plan slots → (depth more : ℕ) → 0 < depth → depth < deepest_under scheduler plan slots
      → IsLengthUnder scheduler (with_depth depth plan) more → DropsNothing scheduler (with_depth depth plan) more → ⊥
