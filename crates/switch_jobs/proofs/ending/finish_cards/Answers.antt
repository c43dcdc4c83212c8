use Rattle.std.proofs.Common.{◌≡◌, List, ◌∷◌, [], ◌++◌, length, ap, sym, subst, arith}
use Rattle.std.specs.Vec.Iter.{into_iter_items}
use Rattle.std_lemmas.proofs.Lists.{gone_more}
use Rattle.card_core.specs.declared.outcome.CardOut.{CardOut}
use Rattle.switch_jobs.specs.EndingSteps.{AreLeft}
use Rattle.switch_jobs.proofs.Disbanded.{AreLeft-more}
use Rattle.switch_jobs.proofs.ending.finish_cards.Goals as goal

pub loop-hand-preserved : goal.loop-hand-preserved
loop-hand-preserved c =
    let at = c.loop-hand in
    let x = c.in-Some.hand in
    let rest = into_iter_items at.hand-iterator in
    let steps : rest ≡ x ∷ into_iter_items c.next.new.self = c.in-Some.ensures.steps.0 in
    record {
      rest = gone_more at.yielded rest (into_iter_items c.next.new.self) _ x at.invariant.rest steps;
      left = let was = at.invariant.left in let gone = c.in-Some.ensures.steps.1 in let short = ap length steps in omega arith;
      outputs = subst (λ (outs : List CardOut). AreLeft (at.yielded ++ x ∷ []) outs) (sym c.push_reserved.ensures.items)
          (AreLeft-more at.yielded at.outputs.items x c.finish.result at.invariant.outputs c.finish.ensures);
      room = let room = at.invariant.room in let same = c.push_reserved.ensures.capacity in omega arith;
    }
