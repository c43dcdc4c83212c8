use Rattle.std.proofs.Common.{ℕ, ◌↔◌, subst}
use Rattle.rotating_pick.specs.PortSets.{Has}
use Rattle.slot_match.specs.Matches.{Serves}
use Rattle.slot_match.proofs.Kept.{Has-fed_alike}
use Rattle.slot_match.proofs.matching.Match.outputs_at.Goals as goal

pub returns : goal.returns
returns c j =
    let inside = c.self.inside in
    let level = c.args.level in
    let kind = c.args.kind in
    let found = Has-fed_alike inside.ports inside.count inside.fed inside.free_inputs inside.free_outputs c.self.invariant c.alike.result
    c.intersection.result level kind c.alike.ensures (λ j. (
      λ has.
          let p = (c.intersection.ensures j).0 has in
          let q = (c.difference-fed.ensures j).0 p.0 in
          (((c.all.ensures.members j).0 q.0, q.1), p.1),
      λ p. (c.intersection.ensures j).1 ((c.difference-fed.ensures j).1 ((c.all.ensures.members j).1 p.0.0, p.0.1), p.1),
    )) j in
    subst (λ m. Has c.intersection.result j ↔ ((i : ℕ) × Serves m i j level kind)) c.self.view_is found
