use Rattle.std.proofs.Common.{◌≡◌, ◌∙◌, [], ◌++◌, sym, ap, arith}
use Rattle.std.specs.Vec.Iter.{into_iter_items}
use Rattle.std.proofs.lemmas.List.{nil_from_length, append-nil}
use Rattle.switch_plan.proofs.port_plans.in_order.Goals as goal

pub returns : goal.returns
returns c =
    let at = c.loop-answer in
    let none : into_iter_items at.answer-iterator ≡ [] =
    nil_from_length (into_iter_items at.answer-iterator) (let left = at.invariant.left in let n = c.in-None.ensures.steps.0 in omega arith) in
    at.invariant.made ∙ sym (append-nil at.yielded) ∙ ap (λ xs. at.yielded ++ xs) (sym none) ∙ at.invariant.rest
    ∙ c.into_iter-answer-iterator.ensures.into_iter_gives.0
