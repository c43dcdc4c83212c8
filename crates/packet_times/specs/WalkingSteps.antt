-- The walk over the packets of an input: how many of them went by each of its flows.
use Rattle.std.specs.Prelude.{◌≡◌, ◌≢◌, ◌+◌, ◌*◌, ℕ, nat_lt, if◌then◌else◌, List, length, slice_set, slice_index}
use Rattle.rotating_pick.specs.declared.kinds.Kind.{Kind}
use Rattle.reassembly.specs.declared.limits.TheConstants.{FLOWS_PER_INPUT}
use Rattle.eslip_rounds.specs.Schedulers.{Scheduler}
use Rattle.card_core.specs.declared.plan.Planned.{Planned}
use Rattle.switch_plan.specs.GoodPlans.{SwitchPlan}
use Rattle.run_laws.specs.Runs.{ports_of, card_at, parts_under}
use Rattle.run_laws.specs.Departures.{Flow, earlier_by, departure_under}
use Rattle.packet_times.specs.declared.flow_counts.TheConstants.{MOST_FLOWS}
use Rattle.packet_times.specs.NotingSteps.{IsFlow, kind_place}
use Rattle.packet_times.specs.Rows.{state_of, routed_row, departure_if}

-- the place of a flow among those of its input
abbrev pub own_place : ℕ → ℕ → Kind → ℕ
own_place output level kind = FLOWS_PER_INPUT * output + 2 * level + kind_place kind

-- one more, of numbers that go so far
abbrev pub one_more : ℕ → ℕ
one_more n = if nat_lt n 4294967295 then n + 1 else n

-- one more at a place
abbrev pub with_one : List ℕ → ℕ → List ℕ
with_one counts place = slice_set counts place (one_more (slice_index counts place))

-- one more is counted at the flow to each of these outputs
pub record IsCounted (to : ℕ → Type 0) (level : ℕ) (kind : Kind) (old new : List ℕ) : Type 0 where
  pub long : length new ≡ length old
  pub here : (j : ℕ) → to j → slice_index new (own_place j level kind) ≡ one_more (slice_index old (own_place j level kind))
  pub others : (place : ℕ) → ((j : ℕ) → to j → place ≢ own_place j level kind) → slice_index new place ≡ slice_index old place

-- the first packets of an input are counted at each of its flows
pub record HasGone (scheduler : Scheduler) (plan : SwitchPlan) (slots input k : ℕ) (counts : List ℕ) : Type 0 where
  pub long : length counts ≡ MOST_FLOWS
  pub each : (flow : Flow) → IsFlow (ports_of plan) flow → flow.input ≡ input
      → slice_index counts (own_place flow.output flow.level flow.kind) ≡ earlier_by scheduler plan slots flow k

-- the row of a routed packet to an output
abbrev pub row_to : Scheduler → SwitchPlan → ℕ → ℕ → ℕ → Planned → ℕ → List (List ℕ)
row_to scheduler plan slots i k packet j =
    let state = state_of (card_at plan i) (parts_under scheduler plan i slots) packet in
    routed_row i k packet state j (departure_if state (departure_under scheduler plan slots i j k packet))
