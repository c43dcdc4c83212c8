-- The admitted packets of a run and the work that they bring, its slots as a schedule, and the best level that it has.
use Rattle.std.specs.Prelude.{◌≡◌, ℕ, ◌<◌, ◌≤◌, ◌&&◌, nat_lt, if◌then◌else◌, true, List, map, Some, slice_get}
use Rattle.std.specs.List.{sum_by, range_with_len}
use Rattle.rotating_pick.specs.declared.kinds.Kind.TheVariants.{Uni}
use Rattle.rotating_pick.specs.declared.limits.TheConstants.{LEVELS}
use Rattle.slot_board.specs.Schedules.{decided_under}
use Rattle.eslip_rounds.specs.Schedules.{DecidedSlot}
use Rattle.eslip_rounds.specs.Schedulers.{Scheduler}
use Rattle.eslip_rounds.specs.Decisions.{decision_of}
use Rattle.card_core.specs.declared.plan.Planned.{Planned}
use Rattle.card_core.specs.Plans.{kind_of, queue_of}
use Rattle.card_core.specs.Queues.{is_routed, is_admitted}
use Rattle.switch_plan.specs.Totals.{work_of}
use Rattle.switch_plan.specs.GoodPlans.{SwitchPlan}
use Rattle.run_laws.specs.Runs.{ports_of, setup_for, card_at, parts_under, posts_under}

-- the cells that a packet of input i brings to its outputs, none where it is not admitted in one of the first slots
abbrev pub work_under : Scheduler → SwitchPlan → ℕ → ℕ → Planned → ℕ
work_under scheduler plan slots i packet =
    if nat_lt packet.arrival slots && is_routed packet
    && is_admitted (card_at plan i) (parts_under scheduler plan i slots) packet.arrival packet then work_of packet else 0

-- the cells that all admitted packets bring to their outputs
abbrev pub total_under : Scheduler → SwitchPlan → ℕ → ℕ
total_under scheduler plan slots = sum_by (λ i. sum_by (work_under scheduler plan slots i) (card_at plan i).packets) (range_with_len 0 (ports_of plan))

-- the first slots, as schedules have them
abbrev pub schedule_under : Scheduler → SwitchPlan → ℕ → List DecidedSlot
schedule_under scheduler plan slots = map (decided_under scheduler (setup_for plan) (posts_under scheduler plan)) (range_with_len 0 slots)

abbrev pub run_schedule : SwitchPlan → ℕ → List DecidedSlot
run_schedule = schedule_under decision_of

-- a packet of input i that is admitted in one of the first slots
pub record IsAdmittedUnder (scheduler : Scheduler) (plan : SwitchPlan) (slots i : ℕ) (packet : Planned) : Type 0 where
  pub place : ℕ
  pub found : slice_get (card_at plan i).packets place ≡ Some packet
  pub early : packet.arrival < slots
  pub routed : is_routed packet ≡ true
  pub admitted : is_admitted (card_at plan i) (parts_under scheduler plan i slots) packet.arrival packet ≡ true

-- no packet of a better level is admitted in the first slots, and no multicast packet of this level
pub record IsBestUnder (scheduler : Scheduler) (plan : SwitchPlan) (slots level : ℕ) : Type 0 where
  pub level_in : level < LEVELS
  pub best : (i : ℕ) (packet : Planned) → i < ports_of plan → IsAdmittedUnder scheduler plan slots i packet → level ≤ packet.level
  pub unicast : (i : ℕ) (packet : Planned) → i < ports_of plan → IsAdmittedUnder scheduler plan slots i packet → packet.level ≡ level
      → kind_of (queue_of packet) ≡ Uni
