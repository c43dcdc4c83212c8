-- How much a packet brings, and the greatest number of slots of cards, as far as a loop has come.
use Rattle.std.proofs.Common.{◌≡◌, ◌∙◌, ℕ, zero, suc, ◌+◌, ◌/◌, ◌^◌, ◌<◌, ◌≤◌, List, length, take, slice_index_or, ap, sym, arith}
use Rattle.std.specs.Prelude.{map, max, count_ones}
use Rattle.std.proofs.lemmas.Nat.{ones_le_self}
use Rattle.std.proofs.lemmas.List.Sums.{fold_more}
use Rattle.std.proofs.lemmas.List.{length-map}
use lib.Count.{ones_step}
use Rattle.std.proofs.Math.ListN.{get_or-map as get_or-map_same}
use Rattle.cell_cutter.specs.Messages.{cells_of_packet}
use Rattle.card_core.specs.declared.plan.Planned.{Planned}
use Rattle.card_core.specs.declared.plan.CardPlan.{CardPlan}
use Rattle.card_core.specs.Plans.{no_packet}
use Rattle.switch_plan.specs.Totals.{slots_of, greatest_slots}
use Rattle.switch_plan.specs.CountingSteps.{packets_of_cards}
use Rattle.switch_plan.proofs.Arriving.{taken_last}

-- a number of `bits` bits has at most as many that are set
pub ones_within : (bits n : ℕ) → n < 2 ^ bits → count_ones n ≤ bits
ones_within zero n below = let none = ones_le_self n in omega arith
ones_within (suc bits) n below =
    let half : n / 2 < 2 ^ bits = omega (arith, below) in
    let rest = ones_within bits (n / 2) half in
    omega (arith, rest, ones_step n)

-- a packet that is forwarded has at most 1,171 cells
pub cells_forwarded : (len : ℕ) → len ≤ 65535 → cells_of_packet len ≤ 1171
cells_forwarded len short = omega arith

-- the packets of a card among those of all
pub packets_at : (cards : List CardPlan) (k : ℕ) (card : CardPlan) → card ≡ slice_index_or cards k card
    → slice_index_or (packets_of_cards cards) k card.packets.items ≡ card.packets.items
packets_at cards k card is =
    get_or-map_same (λ (c : CardPlan). c.packets.items) cards k card ∙ ap (λ (c : CardPlan). c.packets.items) (sym is)

pub cards_long : (cards : List CardPlan) → length (packets_of_cards cards) ≡ length cards
cards_long cards = length-map cards (λ (c : CardPlan). c.packets.items)

pub slots_next : (cards : List CardPlan) (k : ℕ) (card : CardPlan) → k < length cards → card ≡ slice_index_or cards k card
    → greatest_slots (take (k + 1) (packets_of_cards cards)) ≡ max (greatest_slots (take k (packets_of_cards cards))) (slots_of card.packets.items)
slots_next cards k card inside is =
    fold_more (λ most (packets : List Planned). max most (slots_of packets)) 0 (packets_of_cards cards) k card.packets.items (omega (arith, cards_long cards))
    ∙ ap (λ packets. max (greatest_slots (take k (packets_of_cards cards))) (slots_of packets)) (packets_at cards k card is)

-- the last packet's arrival slot and one
pub slots_last : (packets : List Planned) (k : ℕ) → length packets ≡ k + 1 → slots_of packets ≡ (slice_index_or packets k no_packet).arrival + 1
slots_last packets k long =
    taken_last (map (λ packet. packet.arrival) packets) k (length-map packets (λ packet. packet.arrival) ∙ long)
    ∙ ap (λ n. n + 1) (get_or-map_same (λ packet. packet.arrival) packets k no_packet)
