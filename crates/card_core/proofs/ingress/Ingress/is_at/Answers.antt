use Rattle.std.proofs.Common.{◌≡◌, ◌∙◌, sym, ap}
use Rattle.std.proofs.lemmas.Bool.{eqb-true, eq-eqb}
use Rattle.card_core.specs.States.{State}
use Rattle.card_core.proofs.ingress.Ingress.is_at.Goals as goal

pub returns-then-self : goal.returns-then-self
returns-then-self c =
    let slot : c.self.inside.slot ≡ c.args.self.now.slot = ap (λ (b : State). b.slot) c.self.view_is in (
      λ yes_. (sym (ap (λ (b : State). b.posted) c.self.view_is) ∙ c.if-self.true, eqb-true c.args.slot c.self.inside.slot yes_ ∙ slot),
      λ both. eq-eqb c.args.slot c.self.inside.slot (both.1 ∙ sym slot),
    )
