use Rattle.std.proofs.Common.{◌≡◌, ℕ, ◌∙◌, Some, sym, ap, subst, inl, inr}
use Rattle.std.proofs.lemmas.Option.{same_Some}
use Rattle.eslip_rounds.specs.declared.grants.Choice.{Choice}
use Rattle.eslip_rounds.specs.RankSteps.{level_at}
use Rattle.eslip_rounds.proofs.refusals.note.Goals as goal

pub returns-in-Uni : goal.returns-in-Uni
returns-in-Uni c i j level =
    let told = c.refuse.ensures i j level in
    let made : Choice = c.in-Some.grant in (
      λ tells. elim (told.0 tells) [
        | inl old ↦ inl old
        | inr new ↦
            let P : ℕ → Type 0 = λ x. c.args.choice ≡ Some (record { rank = made.rank; input = x }) in
            inr (new.1, (made.rank, subst P (sym new.0) c.in-Some.is, sym c.in-Uni.ensures, new.2 ∙ c.level_of.ensures.value))
      ],
      λ p. told.1 (elim p [
        | inl old ↦ inl old
        | inr new ↦
            let choice = new.1 in
            let other : Choice = record { rank = choice.0; input = i } in
            let same : made ≡ other = same_Some made other (sym c.in-Some.is ∙ choice.1) in
            let ranks : made.rank ≡ choice.0 = ap (λ (f : Choice). f.rank) same in
            inr (ap (λ (f : Choice). f.input) (sym same), new.0, choice.3 ∙ (ap level_at (sym ranks) ∙ sym c.level_of.ensures.value))
      ]),
    )
