use Rattle.std.proofs.Common.{◌≡◌, take}
use Rattle.switch_plan.specs.Totals.{greatest_slots}
use Rattle.switch_plan.specs.CountingSteps.{packets_of_cards}
use Rattle.switch_plan.proofs.totals.greatest_slots.Given as goal

abbrev pub invariant-loop-card : goal.invariant-loop-card
invariant-loop-card l = l.most ≡ greatest_slots (take l.card-index (packets_of_cards l.cards))
