use Rattle.std.proofs.Common.{sym, subst}
use Rattle.card_core.specs.Cards.{CardState, MayReceiveAny, MayTake}
use Rattle.card_core.proofs.card.Card.may_take.Goals as goal

pub returns-then-may_take : goal.returns-then-may_take
returns-then-may_take c =
    let may = c.may_take.ensures.0 c.if-may_take.true in (
      λ yes_. subst (λ (b : CardState). MayTake b c.args.taken.now) c.self.view_is
          (record { posted = may.0; slot = may.1; served = may.2; cell = c.may_take-then-may_take.ensures.0 yes_ }),
      λ all. c.may_take-then-may_take.ensures.1 (subst (λ (b : CardState). MayReceiveAny b.receives c.args.taken.now.cell) (sym c.self.view_is) all.cell),
    )

pub returns-else-may_take : goal.returns-else-may_take
returns-else-may_take c = (
  λ yes_. let f = c.if-may_take.false in absurd (cc),
  λ all.
      let own = subst (λ (b : CardState). MayTake b c.args.taken.now) (sym c.self.view_is) all in
      c.may_take.ensures.1 (own.posted, own.slot, own.served),
)
