-- The ports of a job, each planned by itself: the words of the calls inside.
use Rattle.std.specs.Prelude.{◌≡◌, ℕ, ◌+◌, ◌*◌, ◌^◌, ◌<◌, ◌≤◌, nat_lt, ◌==◌, Bool, List, length, map, flat_map, sum_by, count_by}
use Rattle.std.specs.Prelude.{All, Some, Result, IfOk, slice_get, slice_index_or}
use Rattle.std.specs.List.{AllZip}
use Rattle.rotating_pick.specs.declared.limits.TheConstants.{MAX_PORTS}
use Rattle.rotating_pick.specs.declared.memory.OutOfMemory.{OutOfMemory}
use Rattle.cell_cutter.specs.declared.sizes.TheConstants.{MAX_FORWARDED_BYTES}
use Rattle.line_pace.specs.declared.pace.Pace.{Pace}
use Rattle.line_pace.specs.Arrivals.{base_of, arrival_slots, slots_taken}
use Rattle.pcap_records.specs.declared.capture.Capture.{Capture}
use Rattle.pcap_records.specs.Packets.{packets_of}
use Rattle.forward_table.specs.declared.route_lines.RouteLine.{RouteLine}
use Rattle.card_core.specs.declared.plan.Planned.{Planned}
use Rattle.card_core.specs.declared.plan.CardPlan.{CardPlan}
use Rattle.switch_plan.specs.declared.limits.TheConstants.{MAX_PORT_PACKETS}
use Rattle.switch_plan.specs.declared.port_rooms.TheConstants.{MAX_WORK}
use Rattle.switch_plan.specs.declared.port_rooms.Brought.{Brought}
use Rattle.switch_plan.specs.declared.port_plans.PortPlan.{PortPlan}
use Rattle.switch_plan.specs.Traffic.{stamp_of, port_traffic}
use Rattle.switch_plan.specs.Totals.{work_of}
use Rattle.switch_plan.specs.CountingSteps.{AreCountable}
use Rattle.switch_plan.specs.OutputSteps.{room_at, room_for, AreFew}
use Rattle.switch_plan.specs.ReadingSteps.{IsCaptureOf, IsTrafficOf}

-- a packet of too many captured bytes, which is not forwarded
abbrev pub is_long : Planned → Bool
is_long packet = nat_lt MAX_FORWARDED_BYTES packet.len

-- the arrival slots of a capture's packets
abbrev pub slots_at : Pace → Capture → List ℕ
slots_at pace capture = arrival_slots pace (map stamp_of (packets_of capture))

-- its packets as they come to the switch
abbrev pub traffic_at : List RouteLine → Pace → Capture → List Planned
traffic_at table pace capture = port_traffic table capture.link pace (packets_of capture)

-- a capture that was read, of which no packet comes before slot 0
pub record CanBePlanned (pace : Pace) (capture : Capture) : Type 0 where
  pub read : IsCaptureOf capture.bytes.items capture
  pub times : All (λ packet. base_of pace ≤ packet.seconds * 1000000000 + packet.nanos) capture.packets.items

-- What the packets of a port bring to the outputs, and how many of them go nowhere or are too long. The work is so little that
-- no sum is too great.
pub record IsBroughtBy (packets : List Planned) (brought : Brought) : Type 0 where
  pub rooms : (output : ℕ) → output < MAX_PORTS → room_at brought.rooms output ≡ room_for output packets
  pub work : brought.work ≡ sum_by work_of packets
  pub aside : brought.aside ≡ count_by (λ packet. packet.fan == 0) packets
  pub oversize : brought.oversize ≡ count_by is_long packets
  pub light : brought.work ≤ length packets * MAX_WORK

-- What the packets of each port bring, which can be counted.
abbrev pub AreBroughtBy : List (List Planned) → List Brought → Type 0
AreBroughtBy ports brought = AllZip (λ packets port. AreCountable packets × IsBroughtBy packets port) ports brought

-- What ports bring is so little that no sum over them is too great.
pub record AreSummable (brought : List Brought) : Type 0 where
  pub work : sum_by (λ port. port.work) brought < 2 ^ 64
  pub aside : sum_by (λ port. port.aside) brought < 2 ^ 64
  pub oversize : sum_by (λ port. port.oversize) brought < 2 ^ 64
  pub bytes : (output : ℕ) → output < MAX_PORTS → sum_by (λ port. (room_at port.rooms output).bytes) brought < 2 ^ 64
  pub messages : (output : ℕ) → output < MAX_PORTS → sum_by (λ port. (room_at port.rooms output).messages) brought < 2 ^ 64

-- The card has the rooms for what these ports bring to an output.
pub record HasRooms (brought : List Brought) (output : ℕ) (card : CardPlan) : Type 0 where
  pub sizes : card.sizes.items ≡ flat_map (λ port. (room_at port.rooms output).sizes) brought
  pub body : card.body_room ≡ sum_by (λ port. (room_at port.rooms output).bytes) brought
  pub messages : card.packet_room ≡ sum_by (λ port. (room_at port.rooms output).messages) brought

-- So little that what one packet more brings can be added.
pub record HasRoom (brought : Brought) : Type 0 where
  pub rooms : (output : ℕ) → output < MAX_PORTS → AreFew (room_at brought.rooms output)
  pub work : brought.work ≤ MAX_PORT_PACKETS * MAX_WORK
  pub aside : brought.aside ≤ MAX_PORT_PACKETS
  pub oversize : brought.oversize ≤ MAX_PORT_PACKETS

-- A port that is planned: its packets can be counted, and what they bring is that of the packets.
pub record IsPlanned (port : PortPlan) : Type 0 where
  pub countable : AreCountable port.packets.items
  pub brought : IsBroughtBy port.packets.items port.brought

-- The port as it is planned of a capture that was read. Its packets are those of the capture where its slots fit in 32 bits.
pub record IsPortPlanOf (table : List RouteLine) (pace : Pace) (capture : Capture) (port : PortPlan) : Type 0 where
  pub kept : port.bytes.items ≡ capture.bytes.items
  pub slots : port.slots ≡ slots_taken (slots_at pace capture)
  pub packets : port.slots ≤ 2 ^ 32 → IsTrafficOf table capture (slots_at pace capture) port.packets.items
  pub planned : IsPlanned port

-- what planning each capture gave
pub record ArePlannedAs (table : List RouteLine) (pace : Pace) (captures : List Capture) (answers : List (Result PortPlan OutOfMemory)) : Type 0 where
  pub count : length answers ≡ length captures
  pub each : (k : ℕ) (capture : Capture) (answer : Result PortPlan OutOfMemory) → k < length captures
      → IfOk (slice_index_or answers k answer) (IsPortPlanOf table pace (slice_index_or captures k capture))

-- a port for each capture, in order
pub record ArePortPlansOf (table : List RouteLine) (pace : Pace) (captures : List Capture) (ports : List PortPlan) : Type 0 where
  pub count : length ports ≡ length captures
  pub each : (k : ℕ) (capture : Capture) (port : PortPlan) → slice_get captures k ≡ Some capture → slice_get ports k ≡ Some port
      → IsPortPlanOf table pace capture port
