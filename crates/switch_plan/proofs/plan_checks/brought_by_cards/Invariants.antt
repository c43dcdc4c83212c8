use Rattle.std.proofs.Common.{◌≡◌, length, take}
use Rattle.switch_plan.specs.CountingSteps.{packets_of_cards}
use Rattle.switch_plan.specs.PortSteps.{AreBroughtBy}
use Rattle.switch_plan.proofs.plan_checks.brought_by_cards.Given as goal

abbrev pub invariant-loop-port : goal.invariant-loop-port
invariant-loop-port l = record {
  size : length l.brought ≡ 64;
  so : AreBroughtBy (take l.port (packets_of_cards l.cards)) (take l.port l.brought);
}
