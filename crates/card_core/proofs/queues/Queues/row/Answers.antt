use Rattle.std.proofs.Common.{◌∙◌, ◌∷◌, [], ap}
use Rattle.card_core.specs.InputQueues.{InputQueues}
use Rattle.card_core.specs.StateSteps.{row_of}
use Rattle.card_core.proofs.Sets.{mask_is}
use Rattle.card_core.proofs.queues.Queues.row.Goals as goal

pub returns : goal.returns
returns c =
    let banks = c.self.inside.unicast in
    let first = mask_is banks 0 c.mask.result c.mask.ensures in
    let second = mask_is banks 1 c.mask-2.result c.mask-2.ensures in
    let third = mask_is banks 2 c.mask-3.result c.mask-3.ensures in
    let fourth = mask_is banks 3 c.mask-4.result c.mask-4.ensures in
    (λ i. record {
      uni = first i ∷ second i ∷ third i ∷ fourth i ∷ [];
      multi = c.fan.ensures.rest i ∷ c.fan-2.ensures.rest i ∷ c.fan-3.ensures.rest i ∷ c.fan-4.ensures.rest i ∷ [];
    }) ∙ ap (λ (q : InputQueues). row_of q.unicast q.multicast) c.self.view_is
