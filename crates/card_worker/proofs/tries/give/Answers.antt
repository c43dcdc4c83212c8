use Rattle.std.proofs.Common.{inl, inr, refl}
use Rattle.std.specs.Prelude.{None, false}
use Rattle.std.proofs.lemmas.Bool.{both_ways}
use Rattle.card_core.specs.Cards.{MayTake}
use Rattle.card_worker.proofs.tries.give.Goals as goal

pub returns-then-may_take : goal.returns-then-may_take
returns-then-may_take c =
    let may : MayTake c.args.card.now c.args.taken.now = c.if-may_take.ensures.0 refl in
    record { given = c.args.taken.now; fitted = inl (may.cell, refl); plan = c.take.ensures.plan; after = c.take.ensures.after }

pub returns-else-may_take : goal.returns-else-may_take
returns-else-may_take c =
    record {
      given = record { slot = c.args.taken.now.slot; served = c.args.taken.now.served; cell = None; done = c.args.taken.now.done };
      fitted = inr (
        λ fits. both_ways false refl
            (c.if-may_take.ensures.1 (record { posted = c.requires.posted; slot = c.requires.slot; served = c.requires.served; cell = fits })),
        refl,
      );
      plan = c.take-else-may_take.ensures.plan;
      after = c.take-else-may_take.ensures.after;
    }
