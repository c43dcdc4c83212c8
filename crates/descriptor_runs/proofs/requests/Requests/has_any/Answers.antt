use Rattle.std.proofs.Common.{◌≡◌, ◌^◌, ◌<◌, false, List, sym, subst, arith}
use Rattle.std.proofs.lemmas.Bool.{both_ways, not-true, not_from_false, false_from_ne_true}
use Rattle.slot_match.specs.declared.rows.Row.{Row}
use Rattle.slot_match.proofs.Sets.{Has-some}
use Rattle.descriptor_runs.specs.PortSteps.{AsksAt}
use Rattle.descriptor_runs.proofs.requests.Requests.has_any.Goals as goal

pub returns : goal.returns
returns c =
    let asking = c.self.inside.asking in
    let empty = c.is_empty.result in
    let kept = c.self.invariant.asks in
    let same = c.self.view_is in
    let tells = c.is_empty.ensures.members in
    let fits : asking < 2 ^ 64 = omega arith in (
      λ has.
          let lacks : empty ≡ false = not-true empty has in
          let some = Has-some asking fits (λ none. both_ways empty lacks (tells.1 none)) in
          (some.0, subst (λ (rows : List Row). AsksAt rows some.0) same ((kept some.0).0 some.1)),
      λ p. not_from_false empty (false_from_ne_true empty (λ is.
          tells.0 is p.0 ((kept p.0).1 (subst (λ (rows : List Row). AsksAt rows p.0) (sym same) p.1)))),
    )
