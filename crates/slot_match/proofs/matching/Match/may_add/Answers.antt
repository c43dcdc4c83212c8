use Rattle.std.proofs.Common.{◌≡◌, ℕ, IsTrue, length, sym, ap, subst, arith, rules, ◌∙◌}
use Rattle.rotating_pick.specs.PortSets.{Has}
use Rattle.slot_match.specs.Matches.{IsFreeOutput}
use Rattle.slot_match.proofs.Sets.{Has-some}
use Rattle.slot_match.proofs.matching.Match.may_add.Goals as goal

pub returns : goal.returns
returns c =
    let size : length c.args.self.now ≡ c.self.inside.ports = sym (ap length c.self.view_is) ∙ c.self.invariant.sets.whole.count in
    let inside : IsTrue c.is_subset.result = search rules in
    let left = λ (j : ℕ) (has : Has c.args.outputs j). (c.self.invariant.sets.outputs_left j).0 (c.is_subset.ensures.0 inside j has) in (
      λ ready.
          let p = c.is_ready.ensures.0 ready in record {
            some = Has-some c.args.outputs c.ranges.outputs.fits (λ none. let empty = c.is_empty.ensures.members.1 none in absurd (cc));
            free = λ j has. let p = left j has in let below = p.0 in (omega arith, subst (λ m. IsFreeOutput m j) c.self.view_is p.1);
            one = p.0;
            ready = p.1;
          },
      λ may. c.is_ready.ensures.1 (may.one, may.ready),
    )
