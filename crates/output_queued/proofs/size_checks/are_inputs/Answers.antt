use Rattle.std.proofs.Common.{◌≡◌, ◌∙◌, ℕ, List, [], map, Some, slice_get, slice_index_or, refl, ap, sym, subst, arith}
use Rattle.std.proofs.lemmas.List.{get_or-map, length-map}
use Rattle.std.proofs.lemmas.Option.{slice_get-get_or, slice_get_within}
use Rattle.output_queued.specs.Switches.{IsInput, AreEarly}
use Rattle.output_queued.specs.declared.coming.Coming.{Coming}
use Rattle.output_queued.proofs.LookedAt.{each_more}
use Rattle.output_queued.proofs.size_checks.are_inputs.Goals as goal

abbrev IsWell : ℕ → List Coming → Type 0
IsWell n coming = IsInput n coming × AreEarly coming

pub returns-then-not-is_input : goal.returns-then-not-is_input
returns-then-not-is_input c = (
  λ no_. absurd (cc),
  λ all.
      let items = c.args.inputs.now in
      let i = c.loop-coming.coming-index in
      let long = length-map items (λ list. list.items) in
      let inside = c.loop-coming-test.true in
      let here : slice_index_or (map (λ list. list.items) items) i [] ≡ c.deref.result.now =
      get_or-map (λ list. list.items) items i c.coming-item.result [] inside ∙ ap (λ list. list.items) (sym c.coming-item.is) ∙ sym c.deref.ensures.value in
      let there = slice_get-get_or (map (λ list. list.items) items) i [] (omega arith) in
      let is = subst (IsWell c.args.n) here
      (all.0 i (slice_index_or (map (λ list. list.items) items) i []) there, all.1 i (slice_index_or (map (λ list. list.items) items) i []) there) in
      let yes_ = c.is_input.ensures.1 is in
      let f = c.if-not-is_input.true in
      absurd (cc),
)

pub loop-coming-preserved : goal.loop-coming-preserved
loop-coming-preserved c =
    let items = c.args.inputs.now in
    let i = c.loop-coming.coming-index in
    let inside = c.loop-coming-test.true in
    let here : slice_index_or (map (λ list. list.items) items) i [] ≡ c.deref.result.now =
    get_or-map (λ list. list.items) items i c.coming-item.result [] inside ∙ ap (λ list. list.items) (sym c.coming-item.is) ∙ sym c.deref.ensures.value in
    each_more (IsWell c.args.n) (map (λ list. list.items) items) i [] c.loop-coming.invariant
    (subst (IsWell c.args.n) (sym here) (c.is_input.ensures.0 c.if-not-is_input.false))

pub returns : goal.returns
returns c = (
  λ yes_. (λ k coming there. (well k coming there).0, λ k coming there. (well k coming there).1),
  λ all. refl,
) where
  well : (k : ℕ) (coming : List Coming) → slice_get (map (λ list. list.items) c.args.inputs.now) k ≡ Some coming → IsWell c.args.n coming
  well k coming there =
      let l = slice_get_within (map (λ list. list.items) c.args.inputs.now) k coming there in
      let long = length-map c.args.inputs.now (λ list. list.items) in
      c.loop-coming.invariant k coming (omega arith) there
