-- The unicast cells of a run that enter the queues, that wait in them, and that are granted.
use Rattle.std.specs.Prelude.{◌≡◌, ℕ, ◌+◌, ◌-◌, ◌<◌, ◌≤◌, List, length, sum_by}
use Rattle.std.specs.List.{range_with_len}
use Rattle.rotating_pick.specs.declared.limits.TheConstants.{LEVELS}
use Rattle.eslip_rounds.specs.Schedulers.{Scheduler, IsScheduler}
use Rattle.card_core.specs.Plans.{OfOutput, OfLevel}
use Rattle.card_core.specs.Queues.{before}
use Rattle.card_core.specs.Grants.{granted_to, to_output}
use Rattle.queue_lengths.specs.Lengths.{length_in}
use Rattle.switch_plan.specs.GoodPlans.{SwitchPlan, IsGood}
use Rattle.run_laws.specs.Runs.{ports_of, card_at, parts_under}
use Rattle.arrival_bounds.specs.Counts.{Counts, of_input, for_output, WaitAtMost, QueueWaitsAtMost}
use Rattle.arrival_bounds.specs.Arrivals.{AreUnicast, arriving_at, arriving_for, arriving_in}

-- A run whose bounds are known before it: of a good plan whose packets go to one output each, under any scheduler of
-- request, grant and accept, with at least as many rounds in a slot as the switch has ports. So all matches are maximal.
pub record IsUnicastRun (scheduler : Scheduler) (plan : SwitchPlan) : Type 0 where
  pub scheduling : IsScheduler scheduler
  pub good : IsGood plan
  pub unicast : AreUnicast plan
  pub rounds : ports_of plan ≤ plan.rounds

-- the cells of the queue of input i, output j and level l that entered it in the first t slots, and those granted in them
abbrev pub came_under : Scheduler → SwitchPlan → Counts
came_under scheduler plan i j l t = length (to_output j (before (card_at plan i) (OfOutput j l) (parts_under scheduler plan i t) t).entered)

abbrev pub gone_under : Scheduler → SwitchPlan → Counts
gone_under scheduler plan i j l t = length (granted_to (card_at plan i) (OfOutput j l) j (parts_under scheduler plan i t) t)

-- and those that wait in it in slot t, with the cells that arrive in it and before any is granted
abbrev pub waiting_under : Scheduler → SwitchPlan → Counts
waiting_under scheduler plan i j l t = length_in (card_at plan i) (OfOutput j l) (parts_under scheduler plan i t) t

-- no cell waits more than `most` slots: those that entered a queue in the first t slots are granted in the first t + most
abbrev pub WaitsAtMost : Scheduler → SwitchPlan → ℕ → Type 0
WaitsAtMost scheduler plan most = WaitAtMost (ports_of plan) LEVELS (came_under scheduler plan) (gone_under scheduler plan) most

-- and none of the queue of input i, output j and level l
abbrev pub QueueWaits : Scheduler → SwitchPlan → ℕ → ℕ → ℕ → ℕ → Type 0
QueueWaits scheduler plan i j l most = QueueWaitsAtMost (came_under scheduler plan) (gone_under scheduler plan) i j l most

-- in each slot at most `most_in i` cells wait at input i, and at most `most_out j` wait for output j: all in unicast queues
pub record HoldByLine (scheduler : Scheduler) (plan : SwitchPlan) (most_in most_out : ℕ → ℕ) : Type 0 where
  pub inputs : (i t : ℕ) → i < ports_of plan → of_input (ports_of plan) LEVELS (waiting_under scheduler plan) i t ≤ most_in i
  pub outputs : (j t : ℕ) → j < ports_of plan → for_output (ports_of plan) LEVELS (waiting_under scheduler plan) j t ≤ most_out j
  pub others : (i l t : ℕ) → i < ports_of plan → length_in (card_at plan i) (OfLevel l) (parts_under scheduler plan i t) t ≡ 0

-- and at most `most` at each input, and for each output
abbrev pub HoldsAtMost : Scheduler → SwitchPlan → ℕ → Type 0
HoldsAtMost scheduler plan most = HoldByLine scheduler plan (λ i. most) (λ j. most)

-- slots t - most to t, or slots 0 to t where t is less than `most`
abbrev pub last_slots : ℕ → ℕ → List ℕ
last_slots most t = range_with_len (t - most) (t + 1 - (t - most))

-- in each slot t a queue, an input and an output hold no more cells than arrive for them in these slots
pub record HoldWhatComes (scheduler : Scheduler) (plan : SwitchPlan) (most : ℕ) : Type 0 where
  pub queues : (i j l t : ℕ) → i < ports_of plan → j < ports_of plan → l < LEVELS
      → waiting_under scheduler plan i j l t ≤ sum_by (arriving_in plan i j l) (last_slots most t)
  pub inputs : (i t : ℕ) → i < ports_of plan
      → of_input (ports_of plan) LEVELS (waiting_under scheduler plan) i t ≤ sum_by (arriving_at plan i) (last_slots most t)
  pub outputs : (j t : ℕ) → j < ports_of plan
      → for_output (ports_of plan) LEVELS (waiting_under scheduler plan) j t ≤ sum_by (arriving_for plan j) (last_slots most t)
