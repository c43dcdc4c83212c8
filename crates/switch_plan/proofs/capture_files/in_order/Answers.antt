use Rattle.std.proofs.Common.{◌≡◌, ◌∙◌, [], ◌∷◌, ◌++◌, length, sym, ap, subst, arith, inl, inr}
use Rattle.std.specs.Prelude.{Err}
use Rattle.std.specs.Vec.Iter.{into_iter_items}
use Rattle.std.proofs.lemmas.List.{nil_from_length}
use Rattle.switch_plan.specs.Refusals.{IsFirstFault}
use Rattle.switch_plan.proofs.Answered.{all_read, first_fault, no_memory_fault}
use Rattle.switch_plan.proofs.capture_files.in_order.Goals as goal

pub returns-clause-read : goal.returns-clause-read
returns-clause-read c files read =
    let at = c.loop-answer in
    let none : into_iter_items at.answer-iterator ≡ [] =
    nil_from_length (into_iter_items at.answer-iterator) (let left = at.invariant.left in let n = c.in-None.ensures.steps.0 in omega arith) in
    all_read files c.args.answers.items at.captures.items read
    (ap (λ ys. ys ++ []) at.invariant.read ∙ ap (λ xs. at.yielded ++ xs) (sym none) ∙ at.invariant.rest ∙ c.into_iter-answer-iterator.ensures.into_iter_gives.0)

pub returns-in-Err-clause-refused : goal.returns-in-Err-clause-refused
returns-in-Err-clause-refused c files read =
    let at = c.loop-answer in
    let rest = into_iter_items c.next.new.self in
    let fault = c.in-Err.fault in
    let whole =
    ap (λ ys. ys ++ Err fault ∷ rest) at.invariant.read
    ∙ ap (λ e. at.yielded ++ e ∷ rest) (sym c.in-Err.is)
    ∙ ap (λ xs. at.yielded ++ xs) (sym c.in-Some.ensures.steps.0)
    ∙ at.invariant.rest
    ∙ c.into_iter-answer-iterator.ensures.into_iter_gives.0 in
    let port : length at.captures.items ≡ c.len.result = omega arith in
    elim (first_fault files c.args.answers.items rest at.captures.items fault read whole) [
      | inl memory ↦ inl (c.refusal.ensures.memory memory)
      | inr found ↦
          inr (
            c.len.result,
            fault,
            c.refusal.ensures.other (no_memory_fault files (length at.captures.items) fault found),
            subst (λ k. IsFirstFault files k fault) port found,
          )
    ]
