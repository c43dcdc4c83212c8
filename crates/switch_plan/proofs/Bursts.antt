-- A good plan within the limits of a burst, with queues that are no deeper than those of a burst, is one of a burst.
use Rattle.std.proofs.Common.{◌≡◌, ◌∙◌, ℕ, ◌-◌, ◌<◌, ◌≤◌, List, length, slice_index_or, Some, ap, sym, subst, arith, inl, inr}
use Rattle.std.specs.Prelude.{slice_get}
use Rattle.std.proofs.lemmas.Bool.{cases_eq}
use Rattle.std.proofs.lemmas.List.{get_or_default, length-map}
use Rattle.std.proofs.lemmas.Option.{slice_get-get_or, slice_get_within, get_or_from_slice_get}
use Rattle.std.proofs.Math.ListN.{get_or-map as get_or-map_same}
use Rattle.card_core.specs.declared.plan.Planned.{Planned}
use Rattle.card_core.specs.Plans.{Plan as CardPlan, AreRising, IsSmallPlan, no_packet}
use Rattle.switch_plan.specs.Totals.{most_for, slots_of}
use Rattle.switch_plan.specs.Refusals.{burst_limits}
use Rattle.switch_plan.specs.GoodPlans.{SwitchPlan, IsGood, IsBurst, IsWithin, packets_in}
use Rattle.switch_plan.proofs.Summing.{slots_last}
use Rattle.switch_plan.proofs.RoomBounds.{most_few, body_room_few, packet_room_few}

-- packets that come one after the other come before their slots end
arrives_early : (packets : List Planned) → AreRising packets → (k : ℕ) (d : Planned) → k < length packets
    → (slice_index_or packets k d).arrival < slots_of packets
arrives_early packets rising k d inside =
    let last = length packets - 1 in
    let taken = slots_last packets last (omega (arith, inside)) in
    elim (cases_eq k last) [
      | inl same ↦
          let is = ap (λ (p : Planned). p.arrival)
          (get_or_default packets k d no_packet inside ∙ ap (λ j. slice_index_or packets j no_packet) same) in
          omega (arith, taken, is)
      | inr other ↦
          let apart = rising k last (slice_index_or packets k d) (slice_index_or packets last no_packet) (slice_get-get_or packets k d inside)
          (slice_get-get_or packets last no_packet (omega (arith, inside))) (omega (arith, inside, other)) in
          omega (arith, taken, apart)
    ]

pub burst_within : (plan : SwitchPlan) → IsGood plan → IsWithin (burst_limits (length plan.cards)) plan → plan.depth ≤ 131072 → IsBurst plan
burst_within plan good within deep = record {
  slots = within.slots;
  cells = within.cells;
  cards = small;
}
  where
    small : (port : ℕ) (card : CardPlan) → slice_get plan.cards port ≡ Some card → IsSmallPlan card
    small port card there =
        let is = good.cards port card there in
        let depth = is.depth in
        let inside = slice_get_within plan.cards port card there in
        let its : slice_index_or (packets_in plan) port card.packets ≡ card.packets =
        get_or-map_same (λ (c : CardPlan). c.packets) plan.cards port card
        ∙ ap (λ (c : CardPlan). c.packets) (get_or_from_slice_get plan.cards port card card there) in
        let slots : slots_of card.packets ≤ most_for (length plan.cards) =
        subst (λ packets. slots_of packets ≤ most_for (length plan.cards)) its
        (within.slots port card.packets (omega (arith, inside, length-map plan.cards (λ (c : CardPlan). c.packets)))) in
        let most = most_few (length plan.cards) in
        record {
          early = λ k d at. let comes = arrives_early card.packets is.good.rising k d at in omega (arith, comes, slots, most);
          depth = omega (arith, depth, deep);
          messages = subst (λ room. room ≤ 131072) (sym is.messages) (packet_room_few port (length plan.cards) (packets_in plan) within.cells);
          body = subst (λ room. room ≤ 7340032) (sym is.body) (body_room_few port (length plan.cards) (packets_in plan) within.cells);
        }
