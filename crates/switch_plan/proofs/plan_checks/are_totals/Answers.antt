use Rattle.std.proofs.Common.{◌∙◌, length, sym}
use Rattle.switch_plan.specs.CountingSteps.{packets_of_cards}
use Rattle.switch_plan.proofs.PortSums.{work_is}
use Rattle.switch_plan.proofs.Totalling.{totals_where}
use Rattle.switch_plan.proofs.plan_checks.are_totals.Goals as goal

pub returns : goal.returns
returns c =
    let ports = length c.args.cards.now in
    let packets = packets_of_cards c.args.cards.now in
    let cells_are = c.total_work-cells.ensures ∙ work_is packets c.args.brought.now c.requires.brought in
    let slots_are = c.greatest_slots-slots.ensures in
    let most = c.most_for.ensures in
    let totals = totals_where ports c.args.max_slots packets in (
      λ yes_. totals.0 (rw (sym slots_are, sym cells_are, sym most) (c.is_end.ensures.0 yes_)),
      λ are. c.is_end.ensures.1 (rw (slots_are, cells_are, most) (totals.1 are)),
    )
