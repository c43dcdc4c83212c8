use Rattle.std.proofs.Common.{◌≡◌, sym, ap, subst}
use Rattle.slot_match.specs.declared.rows.Row.{Row}
use Rattle.card_core.specs.Posts.{IsServable}
use Rattle.card_core.specs.States.{State}
use Rattle.card_core.proofs.ingress.Ingress.may_take.Goals as goal

pub returns-then-is_at : goal.returns-then-is_at
returns-then-is_at c =
    let row : c.self.inside.row ≡ c.args.self.now.row = ap (λ (b : State). b.row) c.self.view_is in
    let at = c.is_at.ensures.0 c.if-is_at.true in (
      λ yes_. (at.0, at.1, subst (λ (r : Row). IsServable r c.args.served) row (c.is_servable.ensures.0 yes_)),
      λ all. c.is_servable.ensures.1 (subst (λ (r : Row). IsServable r c.args.served) (sym row) all.2),
    )

pub returns-else-is_at : goal.returns-else-is_at
returns-else-is_at c = (
  λ yes_. let f = c.if-is_at.false in absurd (cc),
  λ all. c.is_at.ensures.1 (all.0, all.1),
)
