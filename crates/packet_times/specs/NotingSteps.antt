-- What is kept of the slots of a run that are noted: which packets were admitted, and the ends of each flow.
use Rattle.std.specs.Prelude.{◌≡◌, ◌<◌, ◌+◌, ◌*◌, ◌^◌, ℕ, zero, suc, ◌&&◌, Bool, List, [], All, length, map, take, Option, slice_index_or}
use Rattle.rotating_pick.specs.declared.limits.TheConstants.{LEVELS}
use Rattle.rotating_pick.specs.declared.kinds.Kind.{Kind}
use Rattle.rotating_pick.specs.declared.kinds.Kind.TheVariants.{Uni, Multi}
use Rattle.slot_match.specs.declared.matching.Fed.{Fed}
use Rattle.slot_match.specs.declared.matching.Served.{Served}
use Rattle.reassembly.specs.declared.limits.TheConstants.{FLOWS_PER_INPUT}
use Rattle.eslip_rounds.specs.Schedulers.{Scheduler}
use Rattle.slot_histories.specs.Slots.{decision_under}
use Rattle.card_core.specs.declared.plan.Planned.{Planned}
use Rattle.card_core.specs.Plans.{Plan}
use Rattle.card_core.specs.Queues.{is_routed, is_admitted}
use Rattle.queue_lengths.specs.Counters.{Counters, CountBefore}
use Rattle.switch_plan.specs.GoodPlans.{SwitchPlan, IsGood}
use Rattle.run_laws.specs.Runs.{ports_of, setup_for, card_at, parts_under, posts_under}
use Rattle.run_laws.specs.Departures.{Flow, ends_of}

-- an input: the counters of its queues, and of each packet that has come whether it was admitted
pub record Input : Type 0 where
  pub counters : Counters
  pub admitted : List Bool

-- The inputs, the ends of each flow by its place, and the match of the slot before.
pub record Times : Type 0 where
  pub inputs : List Input
  pub ends : List (List ℕ)
  pub matched : List (Option Fed)

-- an input without packets, where there is none
abbrev pub no_input : Input
no_input = record { counters = record { ports = 0; depth = 0; packets = []; next = 0; lengths = [] }; admitted = [] }

-- the place of a flow in a switch of so many ports
abbrev pub kind_place : Kind → ℕ
kind_place Uni = 0
kind_place Multi = 1

abbrev pub flow_place : ℕ → Flow → ℕ
flow_place ports flow = FLOWS_PER_INPUT * (ports * flow.output + flow.input) + 2 * flow.level + kind_place flow.kind

-- a flow of a switch of so many ports
pub record IsFlow (ports : ℕ) (flow : Flow) : Type 0 where
  pub input : flow.input < ports
  pub output : flow.output < ports
  pub level : flow.level < LEVELS

-- whether a packet entered its queue
abbrev pub was_admitted : Plan → List (Option Served) → Planned → Bool
was_admitted plan served packet = is_routed packet && is_admitted plan served packet.arrival packet

-- the input of a plan with few packets was served these parts, one in each slot that was noted
pub record IsNoted (plan : Plan) (input : Input) (served : List (Option Served)) : Type 0 where
  pub few : length plan.packets < 2 ^ 32
  pub counts : CountBefore plan input.counters served
  pub admitted : input.admitted ≡ map (was_admitted plan served) (take input.counters.next plan.packets)

-- the match of the slot before, which feeds nothing where there is none
abbrev pub IsLastMatch : Scheduler → SwitchPlan → List (Option Fed) → ℕ → Type 0
IsLastMatch scheduler plan matched zero = matched ≡ []
IsLastMatch scheduler plan matched (suc t) = matched ≡ (decision_under scheduler (setup_for plan) (posts_under scheduler plan) t).matched

-- The first slots of the plan's run are noted. Each message ends in a slot whose number is of 32 bits.
pub record HasNoted (scheduler : Scheduler) (plan : SwitchPlan) (times : Times) (slots : ℕ) : Type 0 where
  pub good : IsGood plan
  pub count : length times.inputs ≡ ports_of plan
  pub each : (i : ℕ) → i < ports_of plan → IsNoted (card_at plan i) (slice_index_or times.inputs i no_input) (parts_under scheduler plan i slots)
  pub flows : length times.ends ≡ FLOWS_PER_INPUT * (ports_of plan * ports_of plan)
  pub ends : (flow : Flow) → IsFlow (ports_of plan) flow → slice_index_or times.ends (flow_place (ports_of plan) flow) [] ≡ ends_of scheduler plan flow slots
  pub last : IsLastMatch scheduler plan times.matched slots
  pub narrow : (flow : Flow) → All (λ t. t < 2 ^ 32) (ends_of scheduler plan flow slots)
