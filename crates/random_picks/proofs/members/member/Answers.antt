use Rattle.std.proofs.Common.{◌≡◌, ◌∙◌, List, ℕ, ap, arith, drop, slice_get}
use Rattle.std.proofs.lemmas.List.{drop-drop}
use Rattle.random_picks.specs.Picks.{members}
use Rattle.random_picks.proofs.Filters.{first-dropped}
use Rattle.random_picks.proofs.members.member.Goals as goal

pub loop-preserved : goal.loop-preserved
loop-preserved c = c.without_first-rest.ensures ∙ (ap (drop 1) c.loop.invariant ∙ drop-drop 1 c.loop.counter (members c.args.ports))

pub returns : goal.returns
returns c =
    let all : c.loop.counter ≡ c.args.number = omega arith in
    c.first.ensures ∙ (ap (λ (xs : List ℕ). slice_get xs 0) c.loop.invariant ∙ (first-dropped c.loop.counter (members c.args.ports)
    ∙ ap (slice_get (members c.args.ports)) all))
