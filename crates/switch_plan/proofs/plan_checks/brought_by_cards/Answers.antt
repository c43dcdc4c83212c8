use Rattle.std.proofs.Common.{◌∙◌, List, [], ◌∷◌, ◌++◌, take, length-set, ap, sym, subst, arith}
use Rattle.std.proofs.lemmas.List.{take_more}
use Rattle.card_core.specs.declared.plan.Planned.{Planned}
use Rattle.card_core.specs.declared.plan.CardPlan.{CardPlan}
use Rattle.switch_plan.specs.CountingSteps.{AreCountable, packets_of_cards}
use Rattle.switch_plan.specs.PortSteps.{IsBroughtBy}
use Rattle.switch_plan.proofs.Summing.{packets_at, cards_long}
use Rattle.switch_plan.proofs.Totalling.{all_at}
use Rattle.switch_plan.proofs.PortSums.{brought_more}
use Rattle.switch_plan.proofs.plan_checks.brought_by_cards.Goals as goal

pub brought_by-requires : goal.brought_by-requires
brought_by-requires c =
    let packets_are = c.deref.ensures.value ∙ ap (λ (card : CardPlan). card.packets.items) (sym c.index-cards-port.is) in
    subst (λ (packets : List Planned). AreCountable packets) (sym packets_are)
    (all_at AreCountable c.args.cards.now c.loop-port.port c.index-cards-port.result c.requires.packets c.loop-port-test.true c.index-cards-port.is)

pub loop-port-preserved : goal.loop-port-preserved
loop-port-preserved c =
    let cards = c.args.cards.now in
    let k = c.loop-port.port in
    let card = c.index-cards-port.result in
    let inside = c.loop-port-test.true in
    let few = c.requires.few in
    let size = c.loop-port.invariant.size in
    let packets_are = c.deref.ensures.value ∙ ap (λ (card : CardPlan). card.packets.items) (sym c.index-cards-port.is) in
    let is = subst (λ (packets : List Planned). IsBroughtBy packets c.brought_by.result) packets_are c.brought_by.ensures in
    let next = take_more (packets_of_cards cards) k card.packets.items (omega (arith, inside, cards_long cards))
    ∙ ap (λ own. take k (packets_of_cards cards) ++ own ∷ []) (packets_at cards k card c.index-cards-port.is) in
    record {
      size = length-set c.loop-port.brought k c.brought_by.result ∙ size;
      so = brought_more (packets_of_cards cards) c.loop-port.brought k card.packets.items c.brought_by.result next (omega (arith, inside, few, size))
          c.loop-port.invariant.so (all_at AreCountable cards k card c.requires.packets inside c.index-cards-port.is, is);
    }
