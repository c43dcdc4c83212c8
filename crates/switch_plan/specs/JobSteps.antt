-- A plan made of planned ports: the words of the calls inside.
use Rattle.std.specs.Prelude.{◌≡◌, ℕ, ◌+◌, ◌^◌, ◌<◌, ◌≤◌, Bool, false, List, length, map, sum_by, count_by}
use Rattle.std.specs.Prelude.{All, Option, None, Some, slice_get}
use Rattle.rotating_pick.specs.declared.limits.TheConstants.{MAX_PORTS}
use Rattle.pcap_records.specs.declared.link.Link.{Link}
use Rattle.pcap_records.specs.declared.capture.Capture.{Capture}
use Rattle.forward_table.specs.declared.route_lines.RouteLine.{RouteLine}
use Rattle.card_core.specs.declared.plan.Planned.{Planned}
use Rattle.card_core.specs.declared.plan.CardPlan.{CardPlan}
use Rattle.switch_words.specs.declared.job.Settings.{Settings}
use Rattle.switch_plan.specs.declared.fault.PlanFault.{PlanFault}
use Rattle.switch_plan.specs.declared.limits.Limits.{Limits}
use Rattle.switch_plan.specs.declared.plan.Plan.{Plan}
use Rattle.switch_plan.specs.declared.port_rooms.Brought.{Brought}
use Rattle.switch_plan.specs.declared.port_plans.PortPlan.{PortPlan}
use Rattle.switch_plan.specs.Totals.{total_work, total_aside, max_slots_of, sizes_for, body_room_for, packet_room_for}
use Rattle.switch_plan.specs.Traffic.{file_of}
use Rattle.switch_plan.specs.Refusals.{over_limits, terms_of, limits_for, refusal_of}
use Rattle.switch_plan.specs.PortSteps.{is_long, IsPlanned, HasRooms}
use Rattle.switch_plan.specs.GoodPlans.{switch_plan_of, IsGood, IsBurst, IsWithin, IsPlanOf}

-- the packets of each port
abbrev pub packets_of_ports : List PortPlan → List (List Planned)
packets_of_ports ports = map (λ port. port.packets.items) ports

-- the first limit that these ports pass
abbrev pub over_ports : Limits → List PortPlan → Option PlanFault
over_ports limits ports =
    over_limits limits (map (λ port. port.slots) ports) (sum_by length (packets_of_ports ports)) (total_work (packets_of_ports ports))

-- ports of which a plan can be made, with all its counts in numbers of 32 bits
pub record AreFit (ports : List PortPlan) : Type 0 where
  pub few : length ports ≤ MAX_PORTS
  pub planned : All IsPlanned ports
  pub end : max_slots_of (packets_of_ports ports) < 2 ^ 32
  pub aside : total_aside (packets_of_ports ports) < 2 ^ 32
  pub long : sum_by (count_by is_long) (packets_of_ports ports) ≤ total_aside (packets_of_ports ports)

-- the card of a port, of number k, with the rooms for what these ports bring to its output
pub record IsCardWith (brought : List Brought) (depth k : ℕ) (port : PortPlan) (card : CardPlan) : Type 0 where
  pub number : card.card ≡ k
  pub size : card.n ≡ length brought
  pub deep : card.depth ≡ depth
  pub kept : card.bytes ≡ port.bytes
  pub packets : card.packets ≡ port.packets
  pub rooms : HasRooms brought k card

-- the card of port k of these, with the rooms for what the packets of all of them bring to its output
pub record IsCardOfPort (ports : List PortPlan) (depth k : ℕ) (port : PortPlan) (card : CardPlan) : Type 0 where
  pub number : card.card ≡ k
  pub size : card.n ≡ length ports
  pub deep : card.depth ≡ depth
  pub kept : card.bytes.items ≡ port.bytes.items
  pub packets : card.packets.items ≡ port.packets.items
  pub sizes : card.sizes.items ≡ sizes_for k (packets_of_ports ports)
  pub body : card.body_room ≡ body_room_for k (packets_of_ports ports)
  pub messages : card.packet_room ≡ packet_room_for k (packets_of_ports ports)

-- the cards of all of them
pub record AreCardsOf (ports : List PortPlan) (depth : ℕ) (cards : List CardPlan) : Type 0 where
  pub count : length cards ≡ length ports
  pub each : (k : ℕ) (port : PortPlan) (card : CardPlan) → slice_get ports k ≡ Some port → slice_get cards k ≡ Some card → IsCardOfPort ports depth k port card

-- the plan of these settings and ports
pub record IsPlanWith (settings : Settings) (nanoseconds : Bool) (type : Link) (ports : List PortPlan) (plan : Plan) : Type 0 where
  pub nano : plan.nano ≡ nanoseconds
  pub link : plan.link ≡ type
  pub rounds : plan.rounds ≡ settings.rounds
  pub depth : plan.depth ≡ settings.depth
  pub workers : plan.workers ≡ settings.workers
  pub max_slots : plan.max_slots ≡ max_slots_of (packets_of_ports ports)
  pub oversize : plan.oversize ≡ sum_by (count_by is_long) (packets_of_ports ports)
  pub aside : plan.oversize + plan.unrouted ≡ total_aside (packets_of_ports ports)
  pub cards : AreCardsOf ports settings.depth plan.cards.items

-- the plan of a job whose table and captures were read, and are not refused
pub record IsJobPlan (settings : Settings) (table : List RouteLine) (captures : List Capture) (plan : Plan) : Type 0 where
  pub good : IsGood (switch_plan_of plan)
  pub within : IsWithin (limits_for settings.long (length captures)) (switch_plan_of plan)
  pub burst : settings.long ≡ false → IsBurst (switch_plan_of plan)
  pub allowed : refusal_of (terms_of settings) table (map file_of captures) ≡ None
  pub planned : IsPlanOf settings (map (λ capture. capture.bytes.items) captures) table (map file_of captures) (switch_plan_of plan)
