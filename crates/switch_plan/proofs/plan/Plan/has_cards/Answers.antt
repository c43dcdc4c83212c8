use Rattle.std.proofs.Common.{List, subst}
use Rattle.card_core.specs.declared.plan.CardPlan.{CardPlan}
use Rattle.switch_plan.specs.CheckingSteps.{AreOwnCards}
use Rattle.switch_plan.proofs.Checked.{countable_cards}
use Rattle.switch_plan.proofs.plan.Plan.has_cards.Goals as goal

pub is_consistent-requires-clause-packets : goal.is_consistent-requires-clause-packets
is_consistent-requires-clause-packets c =
    countable_cards c.args.self.now.cards.items c.args.self.now.depth
    (subst (λ (cards : List CardPlan). AreOwnCards c.args.self.now.depth cards) c.deref.ensures.value (c.are_own_cards.ensures.0 c.if-are_own_cards.true))
