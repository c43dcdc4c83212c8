-- What is promised of a run of so many slots: what it delivers, how long a queue waits, and how many slots it has. What
-- ends in `Under` says it of any scheduler.
use Rattle.std.specs.Prelude.{◌≡◌, ℕ, ◌+◌, ◌*◌, ◌<◌, ◌≤◌, [], All, Any, map, take, drop, false}
use Rattle.rotating_pick.specs.declared.kinds.Kind.{Kind}
use Rattle.rotating_pick.specs.declared.kinds.Kind.TheVariants.{Uni, Multi}
use Rattle.rotating_pick.specs.declared.limits.TheConstants.{LEVELS}
use Rattle.slot_match.specs.Rows.{Names, HasHead}
use Rattle.slot_match.specs.Matches.{Serves, Completes}
use Rattle.service_bound.specs.Windows.{IsClean, IsWithoutMulticast}
use Rattle.service_bound.specs.Waits.{noted_of, longest_wait, longest_service_at_line_rate}
use Rattle.eslip_rounds.specs.Schedulers.{Scheduler}
use Rattle.eslip_rounds.specs.Decisions.{decision_of}
use Rattle.slot_histories.specs.Slots.{decision_under}
use Rattle.slot_histories.specs.Tests.{is_empty}
use Rattle.card_core.specs.Plans.{message_of}
use Rattle.card_core.specs.Deliveries.{messages_from}
use Rattle.switch_plan.specs.Totals.{greatest_slots}
use Rattle.switch_plan.specs.GoodPlans.{SwitchPlan, packets_in}
use Rattle.run_laws.specs.Runs.{ports_of, setup_for, card_at, posts_under}
use Rattle.run_laws.specs.Crossings.{cells_under, admitted_under}
use Rattle.run_laws.specs.Sums.{total_under, schedule_under, IsBestUnder}

-- All packets arrive before the run's end, so that what is said of the first slots is said of every packet.
abbrev pub ArrivalsComeFirst : SwitchPlan → ℕ → Type 0
ArrivalsComeFirst plan slots = (i : ℕ) → i < ports_of plan → All (λ packet. packet.arrival < slots) (card_at plan i).packets

-- At each output the messages of each flow are those of the admitted packets of that input, level and kind with the
-- output in their fan-out, in order of arrival.
abbrev pub DeliversUnder : Scheduler → SwitchPlan → ℕ → Type 0
DeliversUnder scheduler plan slots = (i j level : ℕ) (kind : Kind) → i < ports_of plan → j < ports_of plan → level < LEVELS
    → messages_from i level kind [] (cells_under scheduler plan j slots) ≡ map (message_of (card_at plan i))
    (admitted_under scheduler plan j i level kind slots)

-- And there are no others: each cell that crosses is of an input and a level of the switch.
abbrev pub DeliversNoOthersUnder : Scheduler → SwitchPlan → ℕ → Type 0
DeliversNoOthersUnder scheduler plan slots = (j : ℕ) → All (λ cell. (cell.input < ports_of plan) × (cell.level < LEVELS)) (cells_under scheduler plan j slots)

-- In how many slots a unicast request is served at the latest, where nothing better is posted: the rows of a run are at
-- line rate, so from three ports on one slot less than for rows at large.
abbrev pub bound_of : SwitchPlan → ℕ
bound_of plan = longest_service_at_line_rate (ports_of plan) plan.rounds

-- In so many slots in a row in which nothing of a better level and no multicast of the level is posted, a unicast queue
-- that is posted in the first is served in one of them.
abbrev pub ServesUnder : Scheduler → SwitchPlan → ℕ → ℕ → Type 0
ServesUnder scheduler plan slots bound = (first level i j : ℕ) → level < LEVELS → i < ports_of plan → first + bound ≤ slots
    → All (λ slot. IsClean (ports_of plan) level slot.rows × IsWithoutMulticast (ports_of plan) level slot.rows)
    (take bound (drop first (schedule_under scheduler plan slots)))
    → Names (posts_under scheduler plan i first).row level Uni j
    → Any (λ slot. Serves slot.decision.matched i j level Uni) (take bound (drop first (schedule_under scheduler plan slots)))

abbrev pub ServesWaiting : SwitchPlan → ℕ → Type 0
ServesWaiting plan slots = ServesUnder decision_of plan slots (bound_of plan)

-- In twice as many slots in a row as there are ports, in which nothing of a better level is posted, a multicast head that
-- is posted in the first completes in one of them, whatever unicast is posted.
abbrev pub CompletesUnder : Scheduler → SwitchPlan → ℕ → Type 0
CompletesUnder scheduler plan slots = (first level i j : ℕ) → level < LEVELS → i < ports_of plan → first + 2 * ports_of plan ≤ slots
    → All (λ slot. IsClean (ports_of plan) level slot.rows) (take (2 * ports_of plan) (drop first (schedule_under scheduler plan slots)))
    → Names (posts_under scheduler plan i first).row level Multi j
    → Any (λ slot. HasHead slot.rows level i × Completes slot.rows slot.decision.matched level i)
    (take (2 * ports_of plan) (drop first (schedule_under scheduler plan slots)))

abbrev pub CompletesMulticast : SwitchPlan → ℕ → Type 0
CompletesMulticast = CompletesUnder decision_of

-- The longest wait of the best level of all admitted packets is below the bound, where none of that level is multicast.
abbrev pub WaitsUnder : Scheduler → SwitchPlan → ℕ → ℕ → Type 0
WaitsUnder scheduler plan slots bound = (level : ℕ) → IsBestUnder scheduler plan slots level
    → longest_wait (ports_of plan) level (map noted_of (schedule_under scheduler plan slots)) < bound

-- And the bound is that number of slots.
abbrev pub WaitsAreShort : SwitchPlan → ℕ → Type 0
WaitsAreShort plan slots = WaitsUnder decision_of plan slots (bound_of plan)

-- There are at most as many slots as the greatest number of arrival slots, the cells of the admitted packets counted for
-- each output, and one.
abbrev pub HasFewSlotsUnder : Scheduler → SwitchPlan → ℕ → Type 0
HasFewSlotsUnder scheduler plan slots = slots ≤ greatest_slots (packets_in plan) + total_under scheduler plan slots + 1

-- A slot in which some port posts a row that is not empty matches a pair.
abbrev pub BusySlotsMatchUnder : Scheduler → SwitchPlan → Type 0
BusySlotsMatchUnder scheduler plan = (i t : ℕ) → i < ports_of plan → is_empty (posts_under scheduler plan i t).row ≡ false
    → (input output level : ℕ) × (kind : Kind)
    × Serves (decision_under scheduler (setup_for plan) (posts_under scheduler plan) t).matched input output level kind
