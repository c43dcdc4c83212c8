use Rattle.std.proofs.Common.{◌∙◌, List, ap, sym}
use Rattle.std.specs.Prelude.{max}
use Rattle.card_core.specs.declared.plan.Planned.{Planned}
use Rattle.switch_plan.specs.Totals.{slots_of}
use Rattle.switch_plan.proofs.Summing.{slots_next}
use Rattle.switch_plan.proofs.totals.greatest_slots.Goals as goal

pub loop-card-preserved : goal.loop-card-preserved
loop-card-preserved c =
    c.max-most.ensures
    ∙ ap (λ m. max m c.slots_of.result) c.loop-card.invariant
    ∙ ap (max _) (c.slots_of.ensures ∙ ap (λ (xs : List Planned). slots_of xs) c.deref.ensures.value)
    ∙ sym (slots_next c.args.cards.now c.loop-card.card-index c.card-item.result c.loop-card-test.true c.card-item.is)
