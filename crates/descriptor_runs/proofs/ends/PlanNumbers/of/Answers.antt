use Rattle.std.proofs.Common.{◌≡◌, ◌∙◌, ◌<◌, ◌^◌, List, length, map, refl, ap, sym, subst, arith}
use Rattle.std.specs.List.{sum_by}
use Rattle.std_lemmas.proofs.MappedSums.{sum_by-map}
use Rattle.card_core.specs.declared.plan.CardPlan.{CardPlan}
use Rattle.card_core.specs.Plans.{Plan, plan_of}
use Rattle.descriptor_runs.proofs.ends.PlanNumbers.of.Goals as goal

-- the packets of the cards are those of their plans
packets_same : (cards : List CardPlan)
    → sum_by (λ card. length card.packets.items) cards ≡ sum_by length (map (λ (p : Plan). p.packets) (map plan_of cards))
packets_same cards = sym (sum_by-map (λ (p : Plan). length p.packets) plan_of cards)
    ∙ sym (sum_by-map length (λ (p : Plan). p.packets) (map plan_of cards))

pub packet_count-requires : goal.packet_count-requires
packet_count-requires c =
    let few = c.requires.countable.packets in
    let same = packets_same c.args.plan.now.cards.items in
    subst (λ (cards : List CardPlan). sum_by (λ card. length card.packets.items) cards < 2 ^ 32) (sym c.deref.ensures.value) (omega arith)

pub returns : goal.returns
returns c = record {
  depth = refl;
  packets = c.packet_count.ensures
      ∙ ap (λ (cards : List CardPlan). sum_by (λ card. length card.packets.items) cards) c.deref.ensures.value
      ∙ packets_same c.args.plan.now.cards.items;
  oversize = refl;
  unrouted = refl;
}
