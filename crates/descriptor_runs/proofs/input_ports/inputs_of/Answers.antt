use Rattle.std.proofs.Common.{◌≡◌, ◌∙◌, ◌∷◌, [], ◌++◌, ℕ, false, Some, List, length, map, ap, sym, subst, arith, inl, inr}
use Rattle.std.specs.Prelude.{slice_get}
use Rattle.std.specs.Vec.Iter.{into_iter_items}
use Rattle.std.proofs.lemmas.List.{length-map, map_push}
use Rattle.std.proofs.lemmas.Option.{slice_get_within}
use Rattle.std_lemmas.proofs.Lists.{get-snoc, gone_more, here_of}
use Rattle.card_core.specs.declared.plan.CardPlan.{CardPlan}
use Rattle.card_core.specs.Plans.{plan_of}
use Rattle.descriptor_runs.specs.InputSteps.{InputValue, HasServed}
use Rattle.descriptor_runs.proofs.input_ports.inputs_of.Goals as goal

-- one more input is made
made-more : (inputs : List InputValue) (plans : List CardPlan) (input : InputValue) (plan : CardPlan)
    → map (λ (x : InputValue). x.plan) inputs ≡ map plan_of plans → input.plan ≡ plan_of plan
    → map (λ (x : InputValue). x.plan) (inputs ++ input ∷ []) ≡ map plan_of (plans ++ plan ∷ [])
made-more inputs plans input plan so_far own =
    map_push (λ (x : InputValue). x.plan) inputs input
    ∙ (ap (λ ps. ps ++ input.plan ∷ []) so_far
    ∙ (ap (λ p. map plan_of plans ++ p ∷ []) own ∙ sym (map_push plan_of plans plan)))

new-more : (inputs : List InputValue) (input : InputValue) → ((i : ℕ) (x : InputValue) → slice_get inputs i ≡ Some x → HasServed x [] false)
    → HasServed input [] false → (i : ℕ) (x : InputValue) → slice_get (inputs ++ input ∷ []) i ≡ Some x → HasServed x [] false
new-more inputs input each own i x at =
    elim (get-snoc inputs input x i at) [
      | inl early ↦ each i x early
      | inr last ↦ subst (λ (y : InputValue). HasServed y [] false) last.1 own
    ]

pub make-requires : goal.make-requires
make-requires c =
    let at = c.loop-plan in
    let x = c.in-Some.plan in
    let rest = into_iter_items at.plan-iterator in
    let whole : at.yielded ++ rest ≡ c.args.plans.items = at.invariant.rest ∙ c.into_iter-plan-iterator.ensures.into_iter_gives.0 in
    let here = here_of at.yielded rest (into_iter_items c.next.new.self) c.args.plans.items x whole c.in-Some.ensures.steps.0 in
    record { good = c.requires.good (length at.yielded) x here; few = c.requires.few (length at.yielded) x here }

pub push_reserved-requires : goal.push_reserved-requires
push_reserved-requires c =
    let at = c.loop-plan in
    let x = c.in-Some.plan in
    let plans = c.args.plans.items in
    let rest = into_iter_items at.plan-iterator in
    let whole : at.yielded ++ rest ≡ plans = at.invariant.rest ∙ c.into_iter-plan-iterator.ensures.into_iter_gives.0 in
    let below = slice_get_within plans (length at.yielded) x
    (here_of at.yielded rest (into_iter_items c.next.new.self) plans x whole c.in-Some.ensures.steps.0) in
    let made : length at.inputs.items ≡ length at.yielded = sym (length-map at.inputs.items (λ (m : InputValue). m.plan))
    ∙ (ap length at.invariant.plans ∙ length-map at.yielded plan_of) in
    let held = at.inputs.ok.0 in
    let room = at.invariant.room in
    omega arith

pub loop-plan-preserved : goal.loop-plan-preserved
loop-plan-preserved c =
    let at = c.loop-plan in
    let x = c.in-Some.plan in
    let input = c.in_ok-input.input in
    let rest = into_iter_items at.plan-iterator in
    let steps : rest ≡ x ∷ into_iter_items c.next.new.self = c.in-Some.ensures.steps.0 in
    record {
      rest = gone_more at.yielded rest (into_iter_items c.next.new.self) _ x at.invariant.rest steps;
      left = let was = at.invariant.left in let gone = c.in-Some.ensures.steps.1 in let short = ap length steps in omega arith;
      plans = ap (map (λ (m : InputValue). m.plan)) c.push_reserved.ensures.items
          ∙ made-more at.inputs.items at.yielded input x at.invariant.plans c.in_ok-input.ensures.plan;
      served = λ i y mine. new-more at.inputs.items input at.invariant.served c.in_ok-input.ensures.served i y
          (ap (λ inputs. slice_get inputs i) (sym c.push_reserved.ensures.items) ∙ mine);
      room = let room = at.invariant.room in let same = c.push_reserved.ensures.capacity in omega arith;
    }
