-- What single steps of noting a slot add to what is kept.
use Rattle.std.specs.Prelude.{◌≡◌, ◌≢◌, ◌<◌, ◌≤◌, ◌+◌, ◌++◌, ℕ, true, false, if◌then◌else◌, List, [], ◌∷◌, length, map, take, Option, slice_index_or}
use Rattle.cell_cutter.specs.declared.cell.Cell.{Cell}
use Rattle.slot_match.specs.declared.matching.Served.{Served}
use Rattle.eslip_rounds.specs.Schedulers.{Scheduler}
use Rattle.card_core.specs.Plans.{Plan}
use Rattle.queue_lengths.specs.Counters.{CountIn}
use Rattle.switch_plan.specs.GoodPlans.{SwitchPlan}
use Rattle.run_laws.specs.Runs.{ports_of, card_at, parts_under}
use Rattle.run_laws.specs.Departures.{Flow, is_end_of}
use Rattle.packet_times.specs.NotingSteps.{Input, no_input, IsFlow, flow_place, was_admitted, IsNoted}

-- what a slot adds to the ends of a flow, of the cell that crosses to its output
abbrev pub end_in : ℕ → Flow → Option Cell → List ℕ
end_in slot flow cell = if is_end_of flow cell then slot ∷ [] else []

-- the ends of a flow
abbrev pub ends_at : ℕ → List (List ℕ) → Flow → List ℕ
ends_at ports ends flow = slice_index_or ends (flow_place ports flow) []

-- what crosses to the output ends a message of the flow at this place
pub record EndsAt (ports output : ℕ) (cell : Option Cell) (place : ℕ) : Type 0 where
  pub flow : Flow
  pub is_flow : IsFlow ports flow
  pub goes : flow.output ≡ output
  pub ends : is_end_of flow cell ≡ true
  pub is : place ≡ flow_place ports flow

-- it ends a message of no flow
abbrev pub EndsNone : ℕ → ℕ → Option Cell → Type 0
EndsNone ports output cell = (flow : Flow) → IsFlow ports flow → flow.output ≡ output → is_end_of flow cell ≡ false

-- what crosses to one output in the slot is noted
pub record AddsEnd (ports slot output : ℕ) (cell : Option Cell) (old new : List (List ℕ)) : Type 0 where
  pub count : length new ≡ length old
  pub own : (flow : Flow) → IsFlow ports flow → flow.output ≡ output → ends_at ports new flow ≡ ends_at ports old flow ++ end_in slot flow cell
  pub others : (flow : Flow) → IsFlow ports flow → flow.output ≢ output → ends_at ports new flow ≡ ends_at ports old flow

-- what crosses to the first outputs is noted
pub record AddsEnds (ports slot : ℕ) (crosses : ℕ → Option Cell) (outputs : ℕ) (old new : List (List ℕ)) : Type 0 where
  pub count : length new ≡ length old
  pub done : (flow : Flow) → IsFlow ports flow → flow.output < outputs → ends_at ports new flow ≡ ends_at ports old flow
      ++ end_in slot flow (crosses flow.output)
  pub left : (flow : Flow) → IsFlow ports flow → outputs ≤ flow.output → ends_at ports new flow ≡ ends_at ports old flow

-- what crosses to each output is noted
pub record HasEnds (ports slot : ℕ) (crosses : ℕ → Option Cell) (old new : List (List ℕ)) : Type 0 where
  pub count : length new ≡ length old
  pub each : (flow : Flow) → IsFlow ports flow → ends_at ports new flow ≡ ends_at ports old flow ++ end_in slot flow (crosses flow.output)

-- the packet of the next slot has come, and the slot has not served its input
pub record HasArrived (plan : Plan) (input : Input) (served : List (Option Served)) : Type 0 where
  pub counts : CountIn plan input.counters served
  pub admitted : input.admitted ≡ map (was_admitted plan served) (take input.counters.next plan.packets)

-- slots are noted of each input: one more of the first inputs than of the others
pub record AreNoted (scheduler : Scheduler) (plan : SwitchPlan) (slots first : ℕ) (inputs : List Input) : Type 0 where
  pub count : length inputs ≡ ports_of plan
  pub done : (i : ℕ) → i < ports_of plan → i < first → IsNoted (card_at plan i) (slice_index_or inputs i no_input) (parts_under scheduler plan i (slots + 1))
  pub left : (i : ℕ) → i < ports_of plan → first ≤ i → IsNoted (card_at plan i) (slice_index_or inputs i no_input) (parts_under scheduler plan i slots)
