-- The reference of a plan, and the slots that it has noted.
use Rattle.std.specs.Prelude.{List, map, filter}
use Rattle.card_core.specs.declared.plan.Planned.{Planned}
use Rattle.card_core.specs.Plans.{Plan as CardPlan, size_of}
use Rattle.card_core.specs.Queues.{is_routed}
use Rattle.output_queued.specs.declared.coming.Coming.{Coming}

-- a packet by its arrival slot, its cells, its fan-out and its level
abbrev pub coming_of : Planned → Coming
coming_of packet = record { slot = packet.arrival; cells = size_of packet; fan = packet.fan; level = packet.level }

-- the packets of a card that go anywhere
abbrev pub coming_in : CardPlan → List Coming
coming_in card = map coming_of (filter is_routed card.packets)
