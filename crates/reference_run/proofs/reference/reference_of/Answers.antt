use Rattle.std.proofs.Common.{◌≡◌, ◌∙◌, ◌<◌, [], ◌∷◌, ◌++◌, map, take, length, slice_get, slice_index_or, Some, ap, sym}
use Rattle.std.proofs.Common.{subst, arith}
use Rattle.std.specs.Prelude.{Result, Ok, Err, IfOk}
use Rattle.std.proofs.lemmas.List.{map-append, length-map, take_all, map_more}
use Rattle.std.proofs.lemmas.Simd.{map-map}
use Rattle.std_lemmas.proofs.Lists.{slice_get-map}
use Rattle.card_core.specs.Plans.{plan_of}
use Rattle.switch_plan.specs.GoodPlans.{SwitchPlan, switch_plan_of}
use Rattle.run_laws.specs.Runs.{ports_of}
use Rattle.output_queued.specs.Switches.{IsSwitch}
use Rattle.output_queued.specs.NotingSteps.{State, HasNoted}
use Rattle.reference_run.specs.Meeting.{coming_in}
use Rattle.reference_run.specs.MeetingSteps.{IsReferenceOf}
use Rattle.reference_run.proofs.ToldInputs.{told-switch}
use Rattle.reference_run.proofs.reference.reference_of.Goals as goal

made-of : {E : Type 0} (result : Result State E) (plan : SwitchPlan) → IfOk result (λ r. r.ports ≡ ports_of plan) → IfOk result (λ r. r.depth ≡ plan.depth)
    → IfOk result (λ r. map (λ source. source.coming) r.sources ≡ map coming_in plan.cards) → IfOk result (λ r. HasNoted r [])
    → IfOk result (λ r. IsReferenceOf plan r [])
made-of (Ok r) plan ports depth coming noted = record { ports = ports; depth = depth; coming = coming; noted = noted }
made-of (Err e) plan ports depth coming noted = tt

pub coming_in-requires : goal.coming_in-requires
coming_in-requires c =
    let ps = c.deref-card-items.result.now in
    let i = c.loop-card.card-index in
    let card = c.card-item.result in
    let there : slice_get (map plan_of c.args.plan.now.cards.items) i ≡ Some (plan_of card) =
    ap (λ xs. slice_get (map plan_of xs) i) (sym c.deref-card-items.ensures.value) ∙ slice_get-map plan_of ps i card c.loop-card-test.true
    ∙ ap (λ x. Some (plan_of x)) (sym c.card-item.is) in
    (c.requires.good.cards i (plan_of card) there).good

pub loop-card-preserved : goal.loop-card-preserved
loop-card-preserved c =
    let items = c.args.plan.now.cards.items in
    let ps = c.deref-card-items.result.now in
    let same : ps ≡ items = c.deref-card-items.ensures.value in
    let i = c.loop-card.card-index in
    let card = c.card-item.result in
    let new = c.in_ok-coming_in.field-0 in
    let long = ap length same in
    let test = c.loop-card-test.true in
    let inside : i < length items = omega arith in
    let here : card ≡ slice_index_or items i card = c.card-item.is ∙ ap (λ xs. slice_index_or xs i card) same in
    ap (map (λ list. list.items)) c.in_ok-push.ensures.items
    ∙ map-append (λ list. list.items) c.loop-card.coming.items (new ∷ [])
    ∙ ap (λ xs. xs ++ new.items ∷ []) c.loop-card.invariant
    ∙ ap (λ y. map (λ x. coming_in (plan_of x)) (take i items) ++ y ∷ []) (c.in_ok-coming_in.ensures ∙ ap (λ x. coming_in (plan_of x)) here)
    ∙ sym (map_more (λ x. coming_in (plan_of x)) items i card inside)

pub make-requires : goal.make-requires
make-requires c =
    let items = c.args.plan.now.cards.items in
    let same = c.deref-card-items.ensures.value in
    let long = ap length same in
    let past = c.loop-card-test.false in
    let whole : map (λ list. list.items) c.loop-card.coming.items ≡ map coming_in (map plan_of items) =
    c.loop-card.invariant ∙ ap (map (λ x. coming_in (plan_of x))) (take_all c.loop-card.card-index items (omega arith))
    ∙ sym (map-map coming_in plan_of items) in
    let count : length (map plan_of items) ≡ c.len-n.result = length-map items plan_of ∙ sym (c.len-n.ensures ∙ c.args.plan.now.cards.ok.0) in
    let told = told-switch (switch_plan_of c.args.plan.now) c.requires.good c.requires.countable in
    subst (λ n. IsSwitch n c.args.plan.now.depth (map (λ list. list.items) c.loop-card.coming.items)) count
    (subst (IsSwitch (length (map plan_of items)) c.args.plan.now.depth) (sym whole) told)

pub returns : goal.returns
returns c =
    let items = c.args.plan.now.cards.items in
    let same = c.deref-card-items.ensures.value in
    let long = ap length same in
    let past = c.loop-card-test.false in
    let whole : map (λ list. list.items) c.loop-card.coming.items ≡ map coming_in (map plan_of items) =
    c.loop-card.invariant ∙ ap (map (λ x. coming_in (plan_of x))) (take_all c.loop-card.card-index items (omega arith))
    ∙ sym (map-map coming_in plan_of items) in
    let count : length (map plan_of items) ≡ c.len-n.result = length-map items plan_of ∙ sym (c.len-n.ensures ∙ c.args.plan.now.cards.ok.0) in
    made-of c.make.result (switch_plan_of c.args.plan.now) (subst (λ n. IfOk c.make.result (λ r. r.ports ≡ n)) (sym count) c.make.ensures.ports)
    c.make.ensures.depth (subst (λ lists. IfOk c.make.result (λ r. map (λ source. source.coming) r.sources ≡ lists)) whole c.make.ensures.coming)
    c.make.ensures.noted
