-- The messages of an output's capture, and the slots in which they leave. What ends in `Under` is of any
-- scheduler.
use Rattle.std.specs.Prelude.{◌≡◌, ℕ, ◌<◌, ◌==◌, ◌&&◌, Bool, true, false, List, map, filter, All, Option, None, Some}
use Rattle.std.specs.List.{range_with_len}
use Rattle.rotating_pick.specs.declared.kinds.Kind.{Kind}
use Rattle.rotating_pick.specs.declared.limits.TheConstants.{LEVELS}
use Rattle.cell_cutter.specs.declared.cell.Cell.{Cell}
use Rattle.eslip_rounds.specs.Schedulers.{Scheduler}
use Rattle.eslip_rounds.specs.Decisions.{is_kind}
use Rattle.slot_histories.specs.Slots.{crossed_under}
use Rattle.card_core.specs.Plans.{message_of}
use Rattle.switch_plan.specs.GoodPlans.{SwitchPlan}
use Rattle.run_laws.specs.Runs.{ports_of, setup_for, card_at, posts_under}
use Rattle.run_laws.specs.Crossings.{admitted_under}
use Rattle.run_laws.specs.Outcomes.{messages_under}

-- A message that leaves by an output: the slot in which its last cell crosses, and its input, level and kind, which are its
-- flow.
pub record Departure : Type 0 where
  pub slot : ℕ
  pub input : ℕ
  pub level : ℕ
  pub kind : Kind
  pub message : List ℕ

-- whether it is of this flow
abbrev pub is_from : ℕ → ℕ → Kind → Departure → Bool
is_from input level kind departure = (departure.input == input) && (departure.level == level) && is_kind departure.kind kind

-- the messages of one flow, in order
abbrev pub messages_in : ℕ → ℕ → Kind → List Departure → List (List ℕ)
messages_in input level kind departures = map (λ departure. departure.message) (filter (is_from input level kind) departures)

-- whether a cell crosses that is the last of its message
abbrev pub is_last : Option Cell → Bool
is_last None = false
is_last (Some cell) = cell.last

-- the first slots in which a last cell crosses to output j, in order
abbrev pub last_slots : Scheduler → SwitchPlan → ℕ → ℕ → List ℕ
last_slots scheduler plan j slots = filter (λ t. is_last (crossed_under scheduler (setup_for plan) (posts_under scheduler plan) j t)) (range_with_len 0 slots)

-- in its slot a last cell of its flow crosses to output j
pub record IsEnding (scheduler : Scheduler) (plan : SwitchPlan) (j : ℕ) (departure : Departure) : Type 0 where
  pub cell : Cell
  pub crosses : crossed_under scheduler (setup_for plan) (posts_under scheduler plan) j departure.slot ≡ Some cell
  pub last : cell.last ≡ true
  pub input : cell.input ≡ departure.input
  pub level : cell.level ≡ departure.level
  pub kind : cell.kind ≡ departure.kind

-- What leaves by output j in the first slots: the messages of its capture, one for each slot in which a last cell crosses to
-- it, in the order of these slots. Those of each flow are those of its admitted packets, in order of arrival, and there
-- are no others.
pub record AreDepartures (scheduler : Scheduler) (plan : SwitchPlan) (slots j : ℕ) (departures : List Departure) : Type 0 where
  pub messages : map (λ departure. departure.message) departures ≡ messages_under scheduler plan j slots
  pub order : map (λ departure. departure.slot) departures ≡ last_slots scheduler plan j slots
  pub endings : All (IsEnding scheduler plan j) departures
  pub flows : (i level : ℕ) (kind : Kind) → i < ports_of plan → level < LEVELS
      → messages_in i level kind departures ≡ map (message_of (card_at plan i)) (admitted_under scheduler plan j i level kind slots)
  pub no_others : All (λ departure. (departure.input < ports_of plan) × (departure.level < LEVELS)) departures

-- The messages of each output's capture are those of its flows, in the order of the slots in which their last cells cross.
abbrev pub InterleavesFlowsUnder : Scheduler → SwitchPlan → ℕ → Type 0
InterleavesFlowsUnder scheduler plan slots = (j : ℕ) → j < ports_of plan → (departures : List Departure) × AreDepartures scheduler plan slots j departures
