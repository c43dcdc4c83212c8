use Rattle.std.proofs.Common.{take}
use Rattle.std.specs.Prelude.{All}
use Rattle.switch_plan.specs.CountingSteps.{packets_of_cards}
use Rattle.switch_plan.specs.CheckingSteps.{AreWhole}
use Rattle.switch_plan.proofs.plan_checks.are_whole.Given as goal

abbrev pub invariant-loop-card : goal.invariant-loop-card
invariant-loop-card l = All AreWhole (take l.card-index (packets_of_cards l.cards))
