use Rattle.std.proofs.Common.{◌≡◌, ℕ, ◌<◌, Some}
use Rattle.std.specs.Prelude.{slice_get}
use Rattle.card_core.specs.declared.plan.CardPlan.{CardPlan}
use Rattle.switch_plan.specs.PortSteps.{HasRooms}
use Rattle.switch_plan.proofs.plan_checks.are_sized.Given as goal

abbrev pub invariant-loop-output : goal.invariant-loop-output
invariant-loop-output l = (port : ℕ) (card : CardPlan) → port < l.output → slice_get l.cards port ≡ Some card → HasRooms l.brought port card
