use Rattle.std.proofs.Common.{◌≡◌, ◌∙◌, ◌+◌, ◌^◌, ◌<◌, ℕ, List, [], ◌∷◌, ◌++◌, length, length-append, refl, ap, sym, subst, arith, slice_index_or}
use Rattle.run_laws.specs.Runs.{card_at}
use Rattle.packet_times.specs.NotingSteps.{Input, no_input, IsNoted}
use Rattle.card_core.specs.declared.plan.CardPlan.{CardPlan}
use Rattle.card_core.specs.Plans.{IsGoodPlan, plan_of}
use Rattle.switch_plan.specs.GoodPlans.{switch_plan_of}
use Rattle.packet_times.proofs.Noted.{good-at, few-at, made-more, made-all}
use Rattle.packet_times.proofs.inputs.inputs_of.Goals as goal

pub make-requires : goal.make-requires
make-requires c =
    let plan = c.args.plan.now in
    let cards = plan.cards.items in
    let i = c.loop-card.card-index in
    let card = c.card-item.result in
    let inside : i < length cards = omega arith in
    let e : slice_index_or cards i card ≡ card = cc in
    record {
      good = subst (λ (x : CardPlan). IsGoodPlan (plan_of x)) e (good-at (switch_plan_of plan) cards refl c.requires.good i card inside);
      few = subst (λ (x : CardPlan). length (plan_of x).packets < 2 ^ 32) e (few-at (switch_plan_of plan) cards refl c.requires.countable i card inside);
    }

pub returns : goal.returns
returns c scheduler =
    let plan = c.args.plan.now in
    let cards = plan.cards.items in
    let long : length c.loop-card.inputs.items ≡ length cards = omega arith in
    made-all (switch_plan_of plan) cards refl scheduler c.loop-card.inputs.items long (λ i less. c.loop-card.invariant.each i (omega arith))

pub loop-card-preserved : goal.loop-card-preserved
loop-card-preserved c =
    let plan = c.args.plan.now in
    let cards = plan.cards.items in
    let at = c.loop-card in
    let i = at.card-index in
    let card = c.card-item.result in
    let inside : i < length cards = omega arith in
    let e : slice_index_or cards i card ≡ card = cc in
    let new = c.in_ok-make.field-0 in
    let made : IsNoted (plan_of card) new [] = c.in_ok-make.ensures in
    let pushed : c.push.new.self.items ≡ at.inputs.items ++ new ∷ [] = c.in_ok-push.ensures.items in
    record {
      count = ap length pushed ∙ length-append at.inputs.items (new ∷ []) ∙ (omega (arith, at.invariant.count));
      each = subst (λ (inputs : List Input). (k : ℕ) → k < i + 1 → IsNoted (card_at (switch_plan_of plan) k) (slice_index_or inputs k no_input) []) (sym pushed)
          (made-more (switch_plan_of plan) cards refl i card at.inputs.items new inside at.invariant.count at.invariant.each
          (subst (λ (x : CardPlan). IsNoted (plan_of x) new []) (sym e) made));
    }
