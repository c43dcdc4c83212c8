use Rattle.std.proofs.Common.{◌≡◌, ◌∙◌, ◌<◌, Some, take, ap, subst, sym, refl, arith}
use Rattle.slot_match.specs.declared.matching.Fed.{Fed}
use Rattle.slot_match.specs.Matches.{Serves, fed_of}
use Rattle.slot_match.proofs.Pairs.{same_fed, fed_of-lt}
use Rattle.slot_match.proofs.Tables.{fed_of-take}
use Rattle.slot_match.proofs.ServedParts.{is_from-some, is_from-true}
use Rattle.slot_match.proofs.matching.Match.fed_by.Goals as goal

pub returns : goal.returns
returns c j =
    let n = c.self.inside.ports in
    let table = c.self.inside.fed in
    let i = c.args.input in
    let known = c.loop-output.invariant j in
    let ended : c.loop-output.output ≡ n = omega arith in (
      λ has.
          let p = known.0 has in
          let below : j < n = let lt = p.0 in omega (arith, ended) in
          let found = is_from-some i (fed_of table j) p.1 in
          let whole : Fed = record { input = i; level = found.0.level; kind = found.0.kind } in (
            found.0.level,
            found.0.kind,
            subst (λ m. Serves m i j found.0.level found.0.kind) c.self.view_is
                (fed_of-take n table j below ∙ (found.1 ∙ ap Some (same_fed found.0 whole found.2 refl refl))),
          ),
      λ s.
          let f : Fed = record { input = i; level = s.0; kind = s.1 } in
          let here = subst (λ m. Serves m i j s.0 s.1) (sym c.self.view_is) s.2 in
          let lt = fed_of-lt (take n table) j f here in
          let below : j < n = let count = c.self.invariant.sets.whole.count in omega arith in
          known.1 (omega (arith, ended, below), is_from-true i (fed_of table j) f (sym (fed_of-take n table j below) ∙ here) refl),
    )
