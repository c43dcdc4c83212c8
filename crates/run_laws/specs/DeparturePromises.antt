-- What is promised of the departures of a run of so many slots. What ends in `Under` says it of any scheduler.
use Rattle.std.specs.Prelude.{◌≡◌, ℕ, ◌+◌, ◌<◌, ◌≤◌, ◌&&◌, Bool, true, All, List, length, count_by, Some, slice_get}
use Rattle.rotating_pick.specs.PortSets.{Has}
use Rattle.eslip_rounds.specs.Schedulers.{Scheduler}
use Rattle.slot_histories.specs.Tests.{has}
use Rattle.card_core.specs.declared.plan.Planned.{Planned}
use Rattle.card_core.specs.Plans.{size_of, message_of}
use Rattle.card_core.specs.Queues.{is_routed, is_admitted}
use Rattle.switch_plan.specs.GoodPlans.{SwitchPlan}
use Rattle.run_laws.specs.Interleaving.{AreDepartures, Departure}
use Rattle.run_laws.specs.Outcomes.{messages_under, over_ports, summary_under}
use Rattle.run_laws.specs.Runs.{ports_of, card_at, parts_under}
use Rattle.run_laws.specs.Departures.{flow_of, departure_under}

-- A packet of the run that leaves by output j: the one of input i and number k, admitted, with j in its fan-out.
pub record Leaves (scheduler : Scheduler) (plan : SwitchPlan) (slots i j k : ℕ) (packet : Planned) : Type 0 where
  pub input : i < ports_of plan
  pub output : j < ports_of plan
  pub found : slice_get (card_at plan i).packets k ≡ Some packet
  pub routed : is_routed packet ≡ true
  pub admitted : is_admitted (card_at plan i) (parts_under scheduler plan i slots) packet.arrival packet ≡ true
  pub goes : Has packet.fan j

-- Each packet that leaves by an output has a departure there, which is a slot of the run and not before its arrival and as
-- many slots as it has cells.
abbrev pub EachDeparts : Scheduler → SwitchPlan → ℕ → Type 0
EachDeparts scheduler plan slots = (i j k : ℕ) (packet : Planned) → Leaves scheduler plan slots i j k packet
    → (t : ℕ) × (departure_under scheduler plan slots i j k packet ≡ Some t) × (t < slots) × (packet.arrival + size_of packet ≤ t)

-- Of two packets of one flow to an output the one that arrives earlier departs earlier.
abbrev pub DeparturesRise : Scheduler → SwitchPlan → ℕ → Type 0
DeparturesRise scheduler plan slots = (i j k m : ℕ) (p r : Planned) (t u : ℕ) → Leaves scheduler plan slots i j k p → Leaves scheduler plan slots i j m r
    → flow_of i j p ≡ flow_of i j r → k < m
    → departure_under scheduler plan slots i j k p ≡ Some t → departure_under scheduler plan slots i j m r ≡ Some u → t < u

-- At an output no two packets have one departure.
abbrev pub DeparturesDiffer : Scheduler → SwitchPlan → ℕ → Type 0
DeparturesDiffer scheduler plan slots = (j i k h m : ℕ) (p r : Planned) (t : ℕ) → Leaves scheduler plan slots i j k p → Leaves scheduler plan slots h j m r
    → departure_under scheduler plan slots i j k p ≡ Some t → departure_under scheduler plan slots h j m r ≡ Some t → (i ≡ h) × (k ≡ m)

-- a packet that leaves by output j, with this departure and this message
pub record DepartsAs (scheduler : Scheduler) (plan : SwitchPlan) (slots j : ℕ) (departure : Departure) : Type 0 where
  pub number : ℕ
  pub packet : Planned
  pub leaves : Leaves scheduler plan slots departure.input j number packet
  pub departs : departure_under scheduler plan slots departure.input j number packet ≡ Some departure.slot
  pub message : departure.message ≡ message_of (card_at plan departure.input) packet

-- The messages of an output's capture are in the order of departures: each is that of a packet that departs in its slot, and
-- these slots rise. So the one of number k is of the packet with the k-th least departure there.
abbrev pub RecordsAreInOrder : Scheduler → SwitchPlan → ℕ → Type 0
RecordsAreInOrder scheduler plan slots = (j : ℕ) → j < ports_of plan
    → (departures : List Departure) × AreDepartures scheduler plan slots j departures × All (DepartsAs scheduler plan slots j) departures

-- All of these hold.
pub record HasDeparturesUnder (scheduler : Scheduler) (plan : SwitchPlan) (slots : ℕ) : Type 0 where
  pub each : EachDeparts scheduler plan slots
  pub rise : DeparturesRise scheduler plan slots
  pub differ : DeparturesDiffer scheduler plan slots
  pub in_order : RecordsAreInOrder scheduler plan slots

-- whether a packet of input i leaves by output j
abbrev pub leaves_by : Scheduler → SwitchPlan → ℕ → ℕ → ℕ → Planned → Bool
leaves_by scheduler plan slots i j packet =
    is_routed packet && is_admitted (card_at plan i) (parts_under scheduler plan i slots) packet.arrival packet && has packet.fan j

-- how many packets of all inputs leave by output j
abbrev pub leaving_by : Scheduler → SwitchPlan → ℕ → ℕ → ℕ
leaving_by scheduler plan slots j = over_ports plan (λ i. count_by (leaves_by scheduler plan slots i j) (card_at plan i).packets)

-- As many packets leave by an output as its capture has messages, and by all outputs as many as the summary has copies.
pub record CountsDepartures (scheduler : Scheduler) (plan : SwitchPlan) (slots : ℕ) : Type 0 where
  pub each : (j : ℕ) → j < ports_of plan → leaving_by scheduler plan slots j ≡ length (messages_under scheduler plan j slots)
  pub all : over_ports plan (leaving_by scheduler plan slots) ≡ (summary_under scheduler plan slots).copies
