-- What crosses to each output, and which packets it brings.
use Rattle.std.specs.Prelude.{ℕ, List}
use Rattle.std.specs.List.{flat_map, range_with_len}
use Rattle.std.specs.Option.{option_to_list}
use Rattle.cell_cutter.specs.declared.cell.Cell.{Cell}
use Rattle.eslip_rounds.specs.Schedulers.{Scheduler}
use Rattle.slot_histories.specs.Slots.{crossed_under}
use Rattle.rotating_pick.specs.declared.kinds.Kind.{Kind}
use Rattle.rotating_pick.specs.declared.kinds.Kind.TheVariants.{Uni, Multi}
use Rattle.card_core.specs.declared.plan.Planned.{Planned}
use Rattle.card_core.specs.Plans.{Queue, OfOutput, OfLevel}
use Rattle.card_core.specs.Grants.{packets_to}
use Rattle.switch_plan.specs.GoodPlans.{SwitchPlan}
use Rattle.run_laws.specs.Runs.{setup_for, card_at, parts_under, posts_under}

-- the cells that cross to output j in the first slots, in order of slots: one a slot at most
abbrev pub cells_under : Scheduler → SwitchPlan → ℕ → ℕ → List Cell
cells_under scheduler plan j slots = flat_map (λ t. option_to_list (crossed_under scheduler (setup_for plan) (posts_under scheduler plan) j t))
    (range_with_len 0 slots)

-- the queue of an input from which cells of a level and a kind come to output j
abbrev pub queue_to : ℕ → ℕ → Kind → Queue
queue_to j level Uni = OfOutput j level
queue_to j level Multi = OfLevel level

-- the packets of input i that were admitted in the first slots, of a level and a kind, with output j in their fan-out,
-- in order of arrival
abbrev pub admitted_under : Scheduler → SwitchPlan → ℕ → ℕ → ℕ → Kind → ℕ → List Planned
admitted_under scheduler plan j i level kind slots = packets_to (card_at plan i) (queue_to j level kind) j (parts_under scheduler plan i slots) slots
