-- The plan of a job: what each card is to send, and what follows from that.
use Rattle.std.specs.Prelude.{◌≡◌, ℕ, ◌+◌, ◌%◌, ◌^◌, ◌<◌, ◌≤◌, Bool, false, List, length, map, sum_by, count_by, All, Some, IfSome, slice_get}
use Rattle.rotating_pick.specs.declared.limits.TheConstants.{MAX_PORTS, MAX_ROUNDS}
use Rattle.pcap_records.specs.declared.link.Link.{Link}
use Rattle.forward_table.specs.declared.route_lines.RouteLine.{RouteLine}
use Rattle.card_core.specs.declared.plan.Planned.{Planned}
use Rattle.card_core.specs.Plans.{Plan as CardPlan, plan_of as card_plan_of, bytes_of, IsGoodPlan, IsSmallPlan}
use Rattle.switch_words.specs.declared.limits.TheConstants.{MAX_WORKERS}
use Rattle.switch_words.specs.declared.job.Settings.{Settings}
use Rattle.switch_words.specs.Limits.{IsUpTo}
use Rattle.switch_plan.specs.declared.plan.Plan.{Plan}
use Rattle.switch_plan.specs.declared.limits.Limits.{Limits}
use Rattle.switch_plan.specs.Traffic.{CaptureFile, is_nano, is_oversize, is_unrouted, unplaced, places_from, traffic_of}
use Rattle.switch_plan.specs.Totals.{most_for, slots_of, total_work, total_aside, max_slots_of, sizes_for, body_room_for, packet_room_for}
use Rattle.switch_plan.specs.Refusals.{first_link}

-- The unit and the link type of what is written, the rounds of a slot, the depth of a queue, the workers, the slots
-- that are never passed, how many packets are not forwarded, and a card for each port.
pub record SwitchPlan : Type 0 where
  pub nano : Bool
  pub link : Link
  pub rounds : ℕ
  pub depth : ℕ
  pub workers : ℕ
  pub max_slots : ℕ
  pub oversize : ℕ
  pub unrouted : ℕ
  pub cards : List CardPlan

-- the plan of a job as it was made
abbrev pub switch_plan_of : Plan → SwitchPlan
switch_plan_of plan = record {
  nano = plan.nano;
  link = plan.link;
  rounds = plan.rounds;
  depth = plan.depth;
  workers = plan.workers;
  max_slots = plan.max_slots;
  oversize = plan.oversize;
  unrouted = plan.unrouted;
  cards = map card_plan_of plan.cards.items;
}

-- the packets of each port
abbrev pub packets_in : SwitchPlan → List (List Planned)
packets_in plan = map (λ card. card.packets) plan.cards

-- the card of a port: it is well formed, its own, and sized for what the packets of all ports bring to its output
pub record IsCardOf (plan : SwitchPlan) (port : ℕ) (card : CardPlan) : Type 0 where
  pub good : IsGoodPlan card
  pub number : card.card ≡ port
  pub ports : card.ports ≡ length plan.cards
  pub depth : card.depth ≡ plan.depth
  pub sizes : card.sizes ≡ sizes_for port (packets_in plan)
  pub body : card.body_room ≡ body_room_for port (packets_in plan)
  pub messages : card.packet_room ≡ packet_room_for port (packets_in plan)

-- A plan that a job can be run by, of any size.
pub record IsGood (plan : SwitchPlan) : Type 0 where
  pub size : IsUpTo MAX_PORTS (length plan.cards)
  pub rounds : IsUpTo MAX_ROUNDS plan.rounds
  pub workers : IsUpTo MAX_WORKERS plan.workers
  pub cards : (port : ℕ) (card : CardPlan) → slice_get plan.cards port ≡ Some card → IsCardOf plan port card
  pub max_slots : plan.max_slots ≡ max_slots_of (packets_in plan)
  pub aside : plan.oversize + plan.unrouted ≡ total_aside (packets_in plan)
  pub whole : plan.nano ≡ false → All (All (λ packet. packet.nanos % 1000 ≡ 0)) (packets_in plan)

-- A plan of a burst: its packets are within the limits of the switch, and each card is within its own.
pub record IsBurst (plan : SwitchPlan) : Type 0 where
  pub slots : All (λ packets. slots_of packets ≤ most_for (length plan.cards)) (packets_in plan)
  pub cells : total_work (packets_in plan) ≤ most_for (length plan.cards)
  pub cards : (port : ℕ) (card : CardPlan) → slice_get plan.cards port ≡ Some card → IsSmallPlan card

-- A plan within these limits: the arrival slots of each port, the packets of all where they are limited, and their cells, counted
-- for each output.
pub record IsWithin (limits : Limits) (plan : SwitchPlan) : Type 0 where
  pub slots : All (λ packets. slots_of packets ≤ limits.slots) (packets_in plan)
  pub packets : IfSome limits.packets (λ most. sum_by length (packets_in plan) ≤ most)
  pub cells : total_work (packets_in plan) ≤ limits.cells

-- A plan whose run is counted in numbers of 32 bits: all packets, and the cells that they bring to their outputs, are fewer than
-- 2^32, and so are the slots of the run.
pub record IsCountable (plan : SwitchPlan) : Type 0 where
  pub packets : sum_by length (packets_in plan) < 2 ^ 32
  pub cells : total_work (packets_in plan) < 2 ^ 32
  pub slots : plan.max_slots < 2 ^ 32

-- The plan of a table and captures. The cards keep the files' bytes as they came, and each packet names the place
-- of its own. With the plan being good, this is all of it.
pub record IsPlanOf (settings : Settings) (files : List (List ℕ)) (table : List RouteLine) (captures : List CaptureFile) (plan : SwitchPlan) : Type 0 where
  pub nano : plan.nano ≡ is_nano captures
  pub link : plan.link ≡ first_link captures
  pub rounds : plan.rounds ≡ settings.rounds
  pub depth : plan.depth ≡ settings.depth
  pub workers : plan.workers ≡ settings.workers
  pub oversize : plan.oversize ≡ sum_by (λ capture. count_by (λ packet. is_oversize packet.bytes) capture.packets) captures
  pub unrouted : plan.unrouted ≡ sum_by (λ capture. count_by (λ packet. is_unrouted table (first_link captures) packet.bytes) capture.packets) captures
  pub packets : map (map unplaced) (packets_in plan) ≡ traffic_of table (first_link captures) settings.speed captures
  pub places : map (map (λ packet. packet.start)) (packets_in plan) ≡ map (λ capture. places_from 40 capture.packets) captures
  pub kept : map (λ card. card.bytes) plan.cards ≡ files
  pub bodies : map (λ card. map (bytes_of card) card.packets) plan.cards ≡ map (λ capture. map (λ packet. packet.bytes) capture.packets) captures
