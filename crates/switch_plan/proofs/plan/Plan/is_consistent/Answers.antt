use Rattle.std.proofs.Common.{length, take, arith}
use Rattle.switch_plan.specs.CountingSteps.{packets_of_cards}
use Rattle.switch_plan.proofs.Summing.{cards_long}
use Rattle.switch_plan.proofs.PortSums.{summable}
use Rattle.switch_plan.proofs.Checked.{consistent_where}
use Rattle.switch_plan.proofs.plan.Plan.is_consistent.Goals as goal

pub fits-requires-clause-fit : goal.fits-requires-clause-fit
fits-requires-clause-fit c =
    let cards = c.deref-cards.result.now in
    let few = c.requires.few in
    let long = c.deref-cards.ensures.len in
    summable (packets_of_cards cards) (take (length cards) c.brought_by_cards-brought.result) (omega (arith, few, long, cards_long cards))
    c.brought_by_cards-brought.ensures

pub returns : goal.returns
returns c =
    let cards = c.deref-cards.result.now in
    let few = c.requires.few in
    let long = c.deref-cards.ensures.len in
    let is = consistent_where c.args.self.now cards (take (length cards) c.brought_by_cards-brought.result) c.deref-cards.ensures.value
    (omega (arith, few, long)) c.brought_by_cards-brought.ensures in
    (λ yes_. is.0 (c.fits.ensures.0 yes_), λ all. c.fits.ensures.1 (is.1 all))
