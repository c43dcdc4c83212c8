use Rattle.std.proofs.Common.{◌≡◌, ◌∙◌, ℕ, ◌<◌, Some, length, sym, ap, subst, arith}
use Rattle.std.specs.Prelude.{slice_get}
use Rattle.std.proofs.lemmas.Option.{slice_get-get_or, slice_get_within}
use Rattle.crossbar.specs.declared.cards.Post.{Post}
use Rattle.card_core.specs.Posts.{granted_at}
use Rattle.run_laws.specs.Runs.{ports_of, parts_under, posts_under}
use Rattle.descriptor_runs.specs.InputSteps.{InputValue, row_in}
use Rattle.descriptor_runs.specs.SwitchSteps.{IsNameOf}
use Rattle.descriptor_runs.proofs.ByPlaces.{list_by_place}
use Rattle.descriptor_runs.proofs.InputPorts.{count-inputs, each-more, row-at}
use Rattle.descriptor_runs.proofs.PostedInputs.{name_of_it, post_of_it}
use Rattle.descriptor_runs.proofs.posts.put_posts.Goals as goal

pub post_of-requires : goal.post_of-requires
post_of-requires c =
    let (scheduler, plan, slot, scheduling, good, are, rows, named, long) = c.requires in
    let inputs = c.args.inputs.now in
    let place = c.loop-place.place in
    let input = c.index-inputs-place.result in
    let count = count-inputs plan inputs are.plans in
    let inside : place < length inputs = omega arith in
    let at : slice_get inputs place ≡ Some input = slice_get-get_or inputs place input inside
    ∙ ap (λ (x : InputValue). Some x) (sym c.index-inputs-place.is) in
    let parts = parts_under scheduler plan place slot in (
      parts,
      are.served place input at,
      subst (IsNameOf input.plan (granted_at input.plan parts (length parts))) (sym c.get.ensures)
          (name_of_it scheduler plan slot inputs are c.args.names.now named place input at),
    )

pub loop-place-preserved : goal.loop-place-preserved
loop-place-preserved c = λ scheduler plan slot are rows named.
    let inputs = c.args.inputs.now in
    let place = c.loop-place.place in
    let input = c.index-inputs-place.result in
    let within : place < length c.loop-place.posts = omega arith in
    let long = c.requires.8 in
    let count = count-inputs c.requires.1 inputs c.requires.5.plans in
    let inside : place < length inputs = omega arith in
    let at : slice_get inputs place ≡ Some input = slice_get-get_or inputs place input inside
    ∙ ap (λ (x : InputValue). Some x) (sym c.index-inputs-place.is) in
    let parts = parts_under scheduler plan place slot in
    let here : c.post_of.result ≡ posts_under scheduler plan place slot =
    c.post_of.ensures parts (are.served place input at)
    (row-at inputs c.args.rows.now rows place input _ inside ∙ ap row_in (sym c.index-inputs-place.is))
    (subst (IsNameOf input.plan (granted_at input.plan parts (length parts))) (sym c.get.ensures)
    (name_of_it scheduler plan slot inputs are c.args.names.now named place input at))
    ∙ post_of_it scheduler plan slot inputs are c.args.names.now named place input at in
    each-more (λ (i : ℕ) (post : Post). post ≡ posts_under scheduler plan i slot) place c.loop-place.posts c.post_of.result within
    (c.loop-place.invariant scheduler plan slot are rows named) here

pub returns : goal.returns
returns c = λ scheduler plan slot scheduling good are rows named long.
    let all : length c.loop-place.posts ≡ ports_of plan = omega arith in
    list_by_place (λ (i : ℕ). posts_under scheduler plan i slot) c.loop-place.posts (ports_of plan) all
    (λ i post at.
    let below = slice_get_within c.loop-place.posts i post at in
    c.loop-place.invariant scheduler plan slot are rows named i post (omega arith) at)
