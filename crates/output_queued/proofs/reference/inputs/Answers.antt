use Rattle.std.proofs.Common.{◌≡◌, ◌∙◌, ◌<◌, ℕ, List, [], ◌∷◌, ◌++◌, map, length, slice_get, Some, refl, ap, sym, subst, arith}
use Rattle.std.proofs.Common.{length-append, inl, inr}
use Rattle.std.specs.Vec.Iter.{into_iter_items}
use Rattle.std.proofs.lemmas.Bool.{cases_eq}
use Rattle.std.proofs.lemmas.List.{map-append}
use Rattle.std.proofs.Math.ListN.{get_or-append}
use Rattle.std.proofs.Math.Seq.{get_or-append_seam}
use Rattle.std_lemmas.proofs.Lists.{gone_more}
use Rattle.output_queued.specs.declared.coming.Coming.{Coming}
use Rattle.output_queued.specs.Switches.{card_for}
use Rattle.output_queued.specs.NotingSteps.{Source, no_source, source_at, IsBefore}
use Rattle.output_queued.proofs.reference.inputs.Goals as goal

here_of : {X Y : Type 0} (f : X → Y) (gone next : List X) (x : X) → slice_get (map f (gone ++ x ∷ next)) (length gone) ≡ Some (f x)
here_of f [] next x = refl
here_of f (y ∷ gone) next x = here_of f gone next x

before_more : (n depth : ℕ) (sources : List Source) (new : Source)
    → ((i : ℕ) → i < length sources → IsBefore (card_for n depth (source_at sources i).coming) (source_at sources i) [])
    → IsBefore (card_for n depth new.coming) new []
    → (i : ℕ) → i < length (sources ++ new ∷ []) → IsBefore (card_for n depth (source_at (sources ++ new ∷ []) i).coming) (source_at (sources ++ new ∷ []) i) []
before_more n depth sources new before here i inside =
    let long = length-append sources (new ∷ []) in
    elim (cases_eq i (length sources)) [
      | inl last ↦ rw (last, get_or-append_seam sources new [] no_source) here
      | inr other ↦ rw (get_or-append sources (new ∷ []) no_source i (omega arith)) (before i (omega arith))
    ]

pub make-requires : goal.make-requires
make-requires c =
    let at = c.loop-packets in
    let x = c.in-Some.packets in
    let next = into_iter_items c.next.new.self in
    let steps : into_iter_items at.packets-iterator ≡ x ∷ next = c.in-Some.ensures.steps.0 in
    let whole : at.yielded ++ into_iter_items at.packets-iterator ≡ c.args.coming.items = at.invariant.rest
    ∙ c.into_iter-packets-iterator.ensures.into_iter_gives.0 in
    let all : at.yielded ++ x ∷ next ≡ c.args.coming.items = sym (ap (λ r. at.yielded ++ r) steps) ∙ whole in
    let there : slice_get (map (λ list. list.items) c.args.coming.items) (length at.yielded) ≡ Some x.items =
    ap (λ xs. slice_get (map (λ list. list.items) xs) (length at.yielded)) (sym all) ∙ here_of (λ list. list.items) at.yielded next x in
    record {
      some = c.requires.some;
      size = c.requires.size;
      deep = c.requires.deep;
      input = c.requires.each (length at.yielded) x.items there;
    }

pub loop-packets-preserved : goal.loop-packets-preserved
loop-packets-preserved c =
    let at = c.loop-packets in
    let x = c.in-Some.packets in
    let rest = into_iter_items at.packets-iterator in
    let steps : rest ≡ x ∷ into_iter_items c.next.new.self = c.in-Some.ensures.steps.0 in
    let coming = λ (source : Source). source.coming in
    let new = c.in_ok-make.field-0 in
    let made = c.in_ok-make.ensures in
    let pushed : c.push.new.self.items ≡ at.inputs.items ++ new ∷ [] = c.in_ok-push.ensures.items in
    record {
      rest = gone_more at.yielded rest (into_iter_items c.next.new.self) _ x at.invariant.rest steps;
      left = let was = at.invariant.left in let gone = c.in-Some.ensures.steps.1 in let short = ap length steps in omega arith;
      coming = ap (map coming) pushed ∙ map-append coming at.inputs.items (new ∷ []) ∙ ap (λ xs. xs ++ new.coming ∷ []) at.invariant.coming
          ∙ ap (λ ys. map (λ list. list.items) at.yielded ++ ys ∷ []) made.coming ∙ sym (map-append (λ list. list.items) at.yielded (x ∷ []));
      before = subst (λ (sources : List Source). (i : ℕ) → i < length sources
          → IsBefore (card_for c.args.n c.args.depth (source_at sources i).coming) (source_at sources i) []) (sym pushed)
          (before_more c.args.n c.args.depth at.inputs.items new at.invariant.before
          (subst (λ (cs : List Coming). IsBefore (card_for c.args.n c.args.depth cs) new []) (sym made.coming) made.before));
    }
