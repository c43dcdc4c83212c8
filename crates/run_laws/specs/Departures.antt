-- When each packet of a run leaves: the slot in which its last cell crosses to an output. All is of any scheduler.
use Rattle.std.specs.Prelude.{ℕ, ◌&&◌, Bool, false, List, take, filter, count_by, Option, None, Some, slice_get}
use Rattle.std.specs.List.{range_with_len}
use Rattle.rotating_pick.specs.declared.kinds.Kind.{Kind}
use Rattle.cell_cutter.specs.declared.cell.Cell.{Cell}
use Rattle.eslip_rounds.specs.Schedulers.{Scheduler}
use Rattle.slot_histories.specs.Slots.{crossed_under}
use Rattle.slot_histories.specs.Tests.{has}
use Rattle.card_core.specs.declared.plan.Planned.{Planned}
use Rattle.card_core.specs.Plans.{level_of, kind_of, queue_of}
use Rattle.card_core.specs.Queues.{enters}
use Rattle.card_core.specs.Deliveries.{is_of_flow}
use Rattle.switch_plan.specs.GoodPlans.{SwitchPlan}
use Rattle.run_laws.specs.Runs.{setup_for, card_at, parts_under, posts_under}
use Rattle.run_laws.specs.Crossings.{queue_to}

-- a flow to an output: from an input, of a level and a kind
pub record Flow : Type 0 where
  pub input : ℕ
  pub output : ℕ
  pub level : ℕ
  pub kind : Kind

-- the flow of a packet of input i to output j
abbrev pub flow_of : ℕ → ℕ → Planned → Flow
flow_of i j packet = record { input = i; output = j; level = level_of (queue_of packet); kind = kind_of (queue_of packet) }

-- whether a cell crosses that is the last of a message of the flow
abbrev pub is_end_of : Flow → Option Cell → Bool
is_end_of flow None = false
is_end_of flow (Some cell) = cell.last && is_of_flow flow.input flow.level flow.kind cell

-- the slots among the first in which a last cell of the flow crosses to its output, in order
abbrev pub ends_of : Scheduler → SwitchPlan → Flow → ℕ → List ℕ
ends_of scheduler plan flow slots =
    filter (λ t. is_end_of flow (crossed_under scheduler (setup_for plan) (posts_under scheduler plan) flow.output t)) (range_with_len 0 slots)

-- whether a packet of the flow's input is admitted and goes by the flow
abbrev pub goes_by : Scheduler → SwitchPlan → ℕ → Flow → Planned → Bool
goes_by scheduler plan slots flow packet =
    enters (card_at plan flow.input) (queue_to flow.output flow.level flow.kind) (parts_under scheduler plan flow.input slots) packet
    && has packet.fan flow.output

-- how many packets of the input go by the flow before its packet of number k
abbrev pub earlier_by : Scheduler → SwitchPlan → ℕ → Flow → ℕ → ℕ
earlier_by scheduler plan slots flow k = count_by (goes_by scheduler plan slots flow) (take k (card_at plan flow.input).packets)

-- The departure of a packet of input i, of number k, at output j, in a run of so many slots: the end of its flow that is
-- its own, counted from the first packet that goes by the flow on.
abbrev pub departure_under : Scheduler → SwitchPlan → ℕ → ℕ → ℕ → ℕ → Planned → Option ℕ
departure_under scheduler plan slots i j k packet =
    slice_get (ends_of scheduler plan (flow_of i j packet) slots) (earlier_by scheduler plan slots (flow_of i j packet) k)
