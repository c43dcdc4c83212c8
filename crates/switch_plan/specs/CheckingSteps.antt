-- The parts of a good plan, of the cards as they stand in the code: the words of the calls inside.
use Rattle.std.specs.Prelude.{◌≡◌, ℕ, ◌+◌, ◌≤◌, ◌%◌, false, List, length, sum_by, All, Some, slice_get}
use Rattle.card_core.specs.declared.plan.Planned.{Planned}
use Rattle.card_core.specs.declared.plan.CardPlan.{CardPlan}
use Rattle.card_core.specs.Plans.{plan_of, IsGoodPlan, IsSmallPlan}
use Rattle.switch_plan.specs.declared.plan.Plan.{Plan}
use Rattle.switch_plan.specs.declared.port_rooms.Brought.{Brought}
use Rattle.switch_plan.specs.Totals.{most_for, slots_of, total_work, total_aside, max_slots_of, sizes_for, body_room_for, packet_room_for}
use Rattle.switch_plan.specs.CountingSteps.{packets_of_cards}
use Rattle.switch_plan.specs.PortSteps.{HasRooms}

-- a card that is well formed and within its limits, of the port, of a switch of `ports` ports, and with queues of this depth
pub record IsOwnCard (ports depth port : ℕ) (card : CardPlan) : Type 0 where
  pub good : IsGoodPlan (plan_of card)
  pub small : IsSmallPlan (plan_of card)
  pub number : card.card ≡ port
  pub switch : card.n ≡ ports
  pub deep : card.depth ≡ depth

-- each card is, of the switch that they make
abbrev pub AreOwnCards : ℕ → List CardPlan → Type 0
AreOwnCards depth cards =
    (port : ℕ) (card : CardPlan) → slice_get cards port ≡ Some card → IsOwnCard (length cards) depth port card

-- the card has the rooms for what these packets bring to the port
pub record IsSizedFor (packets : List (List Planned)) (port : ℕ) (card : CardPlan) : Type 0 where
  pub sizes : card.sizes.items ≡ sizes_for port packets
  pub body : card.body_room ≡ body_room_for port packets
  pub messages : card.packet_room ≡ packet_room_for port packets

-- each card has the rooms for what the packets of all bring to its port
abbrev pub AreSized : List CardPlan → Type 0
AreSized cards = (port : ℕ) (card : CardPlan) → slice_get cards port ≡ Some card → IsSizedFor (packets_of_cards cards) port card

-- each card has the rooms for what these ports bring to its output
abbrev pub HaveRooms : List Brought → List CardPlan → Type 0
HaveRooms brought cards = (port : ℕ) (card : CardPlan) → slice_get cards port ≡ Some card → HasRooms brought port card

-- packets within the limits of a switch of `ports` ports, and the slot before which their run ends
pub record AreTotals (ports max_slots : ℕ) (packets : List (List Planned)) : Type 0 where
  pub slots : All (λ packets. slots_of packets ≤ most_for ports) packets
  pub cells : total_work packets ≤ most_for ports
  pub end : max_slots ≡ max_slots_of packets

-- packets of whole microseconds
abbrev pub AreWhole : List Planned → Type 0
AreWhole packets = All (λ packet. packet.nanos % 1000 ≡ 0) packets

-- a plan whose totals, rooms and unit are those that follow from its packets
pub record IsConsistent (plan : Plan) : Type 0 where
  pub totals : AreTotals (length plan.cards.items) plan.max_slots (packets_of_cards plan.cards.items)
  pub aside : plan.oversize + plan.unrouted ≡ total_aside (packets_of_cards plan.cards.items)
  pub sized : AreSized plan.cards.items
  pub whole : plan.nano ≡ false → All AreWhole (packets_of_cards plan.cards.items)

-- and one whose numbers are those of what these cards bring
pub record FitsCards (plan : Plan) (cards : List CardPlan) (brought : List Brought) : Type 0 where
  pub totals : AreTotals (length cards) plan.max_slots (packets_of_cards cards)
  pub aside : plan.oversize + plan.unrouted ≡ sum_by (λ port. port.aside) brought
  pub rooms : HaveRooms brought cards
  pub whole : plan.nano ≡ false → All AreWhole (packets_of_cards plan.cards.items)
