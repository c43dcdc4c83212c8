-- What the counts of packets need, so that no sum is too great: the words of the calls inside.
use Rattle.std.specs.Prelude.{◌≢◌, ◌≤◌, List, length, map, All}
use Rattle.cell_cutter.specs.declared.sizes.TheConstants.{MAX_FORWARDED_BYTES}
use Rattle.card_core.specs.declared.plan.Planned.{Planned}
use Rattle.card_core.specs.declared.plan.CardPlan.{CardPlan}
use Rattle.switch_plan.specs.declared.limits.TheConstants.{MAX_PORT_PACKETS}

-- a packet that goes anywhere is not too long
abbrev pub IsForwardable : Planned → Type 0
IsForwardable packet = packet.fan ≢ 0 → packet.len ≤ MAX_FORWARDED_BYTES

-- the packets of a port can be counted
pub record AreCountable (packets : List Planned) : Type 0 where
  pub few : length packets ≤ MAX_PORT_PACKETS
  pub forwarded : All IsForwardable packets

-- the packets of each card
abbrev pub packets_of_cards : List CardPlan → List (List Planned)
packets_of_cards cards = map (λ card. card.packets.items) cards
