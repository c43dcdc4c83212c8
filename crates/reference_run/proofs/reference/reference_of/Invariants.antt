use Rattle.std.proofs.Common.{◌≡◌, map, take}
use Rattle.card_core.specs.Plans.{plan_of}
use Rattle.reference_run.specs.Meeting.{coming_in}
use Rattle.reference_run.proofs.reference.reference_of.Given as goal

abbrev pub invariant-loop-card : goal.invariant-loop-card
invariant-loop-card l = map (λ list. list.items) l.coming.items ≡ map (λ card. coming_in (plan_of card)) (take l.card-index l.plan.cards.items)
