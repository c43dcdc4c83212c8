use Rattle.std.proofs.Common.{◌≡◌, ℕ, ◌<◌, ◌↔◌, List, Option, length, sym, ap, subst, inl, inr, arith, refl, ◌∙◌}
use Rattle.std.proofs.lemmas.Bool.{cases_eq}
use Rattle.rotating_pick.specs.PortSets.{Has}
use Rattle.slot_match.specs.declared.matching.Fed.{Fed}
use Rattle.slot_match.specs.Rows.{row_of}
use Rattle.slot_match.specs.Matches.{IsFreeOutput}
use Rattle.slot_match.specs.Steps.{Wants}
use Rattle.slot_match.proofs.Maximal.{IsMaximal-from}
use Rattle.slot_match.proofs.matching.Match.is_maximal.Goals as goal

pub loop-i-preserved : goal.loop-i-preserved
loop-i-preserved c i j below wants has =
    elim (cases_eq i c.loop-i.i) [
      | inl same ↦
          let here = subst (λ x. Wants c.args.self.now x (row_of c.args.rows.now x) j) same wants in
          let empty = c.is_empty.ensures.members.0 c.if-not-is_empty.false in
          empty j ((c.intersection.ensures j).1 ((c.wanted-wanted.ensures j).1 here, has))
      | inr other ↦ c.loop-i.invariant i j (omega arith) wants has
    ]

pub returns : goal.returns
returns c =
    let n = length c.args.self.now in
    let size : c.self.inside.ports ≡ n = sym c.self.invariant.sets.whole.count ∙ ap length c.self.view_is in
    let Left : List (Option Fed) → ℕ → Type 0 = λ m k. (j : ℕ) → Has c.self.inside.free_outputs j ↔ ((j < k) × IsFreeOutput m j) in
    let left : Left c.args.self.now n =
    subst (Left c.args.self.now) size (subst (λ m. Left m c.self.inside.ports) c.self.view_is c.self.invariant.sets.outputs_left) in
    (λ _. IsMaximal-from n c.args.rows.now c.args.self.now c.self.inside.free_outputs left (λ i j i_in. c.loop-i.invariant i j (omega arith)), λ _. refl)
