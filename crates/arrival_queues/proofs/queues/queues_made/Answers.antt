use Rattle.std.proofs.Common.{◌∙◌, ◌++◌, ◌∷◌, [], List, ap}
use Rattle.arrival_queues.specs.FieldSteps.{QueueValue}
use Rattle.arrival_queues.proofs.Keeping.{made_next}
use Rattle.arrival_queues.proofs.queues.queues_made.Goals as goal

pub loop-place-preserved : goal.loop-place-preserved
loop-place-preserved c =
    c.in_ok-push.ensures.items ∙ ap (λ (queues : List QueueValue). queues ++ c.in_ok-make.field-0 ∷ []) c.loop-place.invariant
    ∙ made_next c.args.queueing c.args.ports c.args.depth c.loop-place.place c.ports_told-input.result.0 c.ports_told-input.result.1 c.in_ok-make.field-0
    c.ports_told-input.ensures.input c.ports_told-input.ensures.output c.in_ok-make.ensures
