use Rattle.std.proofs.Common.{◌≡◌, ℕ, ◌<◌, length, Some}
use Rattle.std.specs.Prelude.{slice_get}
use Rattle.card_core.specs.declared.plan.CardPlan.{CardPlan}
use Rattle.switch_plan.specs.CheckingSteps.{IsOwnCard}
use Rattle.switch_plan.proofs.plan_checks.are_own_cards.Given as goal

abbrev pub invariant-loop-port : goal.invariant-loop-port
invariant-loop-port l = (port : ℕ) (card : CardPlan) → port < l.port → slice_get l.cards port ≡ Some card → IsOwnCard (length l.cards) l.depth port card
