use Rattle.std.proofs.Common.{◌≡◌, ◌∙◌, List, [], ◌∷◌, map, length, slice_get, slice_index_or, Some, ap, sym, subst, arith}
use Rattle.std.proofs.Common.{length-append}
use Rattle.std.proofs.lemmas.List.{get_or-map, length-map}
use Rattle.std_lemmas.proofs.Lists.{slice_get-map}
use Rattle.card_core.specs.Plans.{Plan, plan_of}
use Rattle.switch_plan.specs.GoodPlans.{switch_plan_of}
use Rattle.run_laws.specs.Runs.{card_at, no_plan}
use Rattle.run_laws.proofs.Base.{served-is}
use Rattle.queue_measures.specs.NotingSteps.{Input, IsNoted, no_input}
use Rattle.queue_measures.proofs.Slots.{counted-card, noted-more}
use Rattle.queue_measures.proofs.measures.QueueMeasures.make.Goals as goal

pub make-requires : goal.make-requires
make-requires c =
    let ps = c.deref-card-items.result.now in
    let i = c.loop-card.card-index in
    let card = c.card-item.result in
    let there : slice_get (map plan_of c.args.plan.now.cards.items) i ≡ Some (plan_of card) =
    ap (λ xs. slice_get (map plan_of xs) i) (sym c.deref-card-items.ensures.value) ∙ slice_get-map plan_of ps i card c.loop-card-test.true
    ∙ ap (λ x. Some (plan_of x)) (sym c.card-item.is) in
    record {
      good = (c.requires.good.cards i (plan_of card) there).good;
      counted = counted-card (switch_plan_of c.args.plan.now) c.requires.countable i (plan_of card) there;
    }

pub loop-card-preserved : goal.loop-card-preserved
loop-card-preserved c =
    let items = c.args.plan.now.cards.items in
    let ps = c.deref-card-items.result.now in
    let i = c.loop-card.card-index in
    let card = c.card-item.result in
    let old = c.loop-card.inputs.items in
    let new = c.in_ok-make.field-0 in
    let was = c.loop-card.invariant in
    let pushed = c.in_ok-push.ensures.items in
    let more = length-append old (new ∷ []) in
    let long = ap length pushed in
    let count = was.long in
    let here : plan_of card ≡ slice_index_or (map plan_of items) (length old) no_plan =
    ap plan_of c.card-item.is ∙ sym (get_or-map plan_of ps i card no_plan c.loop-card-test.true)
    ∙ ap (λ xs. slice_index_or (map plan_of xs) i no_plan) c.deref-card-items.ensures.value
    ∙ ap (λ k. slice_index_or (map plan_of items) k no_plan) (sym count) in
    record {
      long = omega (arith, long, more, count);
      noted = λ k inside. subst (λ (inputs : List Input). IsNoted (slice_index_or (map plan_of items) k no_plan) (slice_index_or inputs k no_input) [])
          (sym pushed)
          (noted-more (map plan_of items) old new (λ j below. was.noted j (omega (arith, count, below)))
          (subst (λ (p : Plan). IsNoted p new []) here c.in_ok-make.ensures) k (omega (arith, count, inside)));
    }

pub returns : goal.returns
returns c =
    let items = c.args.plan.now.cards.items in
    let was = c.loop-card.invariant in
    let same = ap length c.deref-card-items.ensures.value in
    let mapped = length-map items plan_of in
    let past = c.loop-card-test.false in
    let end = c.loop-card.auto.card-index-end in
    let count = was.long in
    λ scheduler. record {
      good = c.requires.good;
      count = omega (arith, same, mapped, past, end, count);
      each = λ i inside. subst (IsNoted (card_at (switch_plan_of c.args.plan.now) i) (slice_index_or c.loop-card.inputs.items i no_input))
          (sym (served-is scheduler (switch_plan_of c.args.plan.now) i 0))
          (was.noted i (omega (arith, same, mapped, past, end, count, inside)));
    }

pub invariant_of-result : goal.invariant_of-result
invariant_of-result c =
    let same = ap length c.deref-card-items.ensures.value in
    let mapped = length-map c.args.plan.now.cards.items plan_of in
    let end = c.loop-card.auto.card-index-end in
    let count = c.loop-card.invariant.long in
    let most = c.requires.good.size.most in
    omega (arith, same, mapped, end, count, most)
