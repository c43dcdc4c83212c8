use Rattle.std.proofs.Common.{List, refl, sym, subst}
use Rattle.card_core.specs.declared.plan.Planned.{Planned}
use Rattle.switch_plan.specs.CheckingSteps.{AreWhole}
use Rattle.switch_plan.proofs.Totalling.{all_at, all_next, all_end}
use Rattle.switch_plan.proofs.plan_checks.are_whole.Goals as goal

pub returns-then-not-are_whole_packets : goal.returns-then-not-are_whole_packets
returns-then-not-are_whole_packets c = (
  λ no_. absurd (cc),
  λ all.
      let here = all_at AreWhole c.args.cards.now c.loop-card.card-index c.card-item.result all c.loop-card-test.true c.card-item.is in
      let yes_ = c.are_whole_packets.ensures.1 (subst (λ (xs : List Planned). AreWhole xs) (sym c.deref.ensures.value) here) in
      let no_ = c.if-not-are_whole_packets.true in
      absurd (cc),
)

pub loop-card-preserved : goal.loop-card-preserved
loop-card-preserved c =
    all_next AreWhole c.args.cards.now c.loop-card.card-index c.card-item.result c.loop-card-test.true c.card-item.is c.loop-card.invariant
    (subst (λ (xs : List Planned). AreWhole xs) c.deref.ensures.value (c.are_whole_packets.ensures.0 c.if-not-are_whole_packets.false))

pub returns : goal.returns
returns c = (λ yes_. all_end AreWhole c.args.cards.now c.loop-card.card-index c.loop-card-test.false c.loop-card.invariant, λ all. refl)
