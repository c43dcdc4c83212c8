use Rattle.std.proofs.Common.{List, sym, subst}
use Rattle.std.specs.Prelude.{All}
use Rattle.card_core.specs.declared.plan.CardPlan.{CardPlan}
use Rattle.switch_plan.specs.CountingSteps.{packets_of_cards}
use Rattle.switch_plan.specs.CheckingSteps.{AreWhole}
use Rattle.switch_plan.proofs.plan.Plan.is_whole.Goals as goal

pub returns-else-self : goal.returns-else-self
returns-else-self c = (
  λ yes_ micro. subst (λ (cards : List CardPlan). All AreWhole (packets_of_cards cards)) c.deref.ensures.value (c.are_whole.ensures.0 yes_),
  λ all. c.are_whole.ensures.1 (subst (λ (cards : List CardPlan). All AreWhole (packets_of_cards cards)) (sym c.deref.ensures.value) (all c.if-self.false)),
)
