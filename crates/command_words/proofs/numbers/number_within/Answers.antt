use Rattle.std.proofs.Common.{sym, ◌∙◌}
use Rattle.command_words.proofs.Digits.{within-no_number, within-some, within-low, within-high, within-beyond}
use Rattle.command_words.proofs.numbers.number_within.Goals as goal

pub returns-then-not-is_number-clause-number : goal.returns-then-not-is_number-clause-number
returns-then-not-is_number-clause-number c =
    within-no_number c.args.low c.args.high c.args.text.now (sym c.is_number.ensures ∙ c.if-not-is_number.true)

pub returns-in-Ok-clause-number : goal.returns-in-Ok-clause-number
returns-in-Ok-clause-number c = within-some c.args.low c.args.high c.in-Ok.number c.args.text.now
    (sym c.is_number.ensures ∙ c.if-not-is_number.false) c.in-Ok.ensures.value.0 c.if-low-number.true c.if-number-high.true

pub returns-in_default-clause-number : goal.returns-in_default-clause-number
returns-in_default-clause-number c = within-high c.args.low c.args.high c.in-Ok.number c.args.text.now
    (sym c.is_number.ensures ∙ c.if-not-is_number.false) c.in-Ok.ensures.value.0 c.if-number-high.false

pub returns-in_default-2-clause-number : goal.returns-in_default-2-clause-number
returns-in_default-2-clause-number c = within-low c.args.low c.args.high c.in-Ok.number c.args.text.now
    (sym c.is_number.ensures ∙ c.if-not-is_number.false) c.in-Ok.ensures.value.0 c.if-low-number.false

pub returns-in_default-3-clause-number : goal.returns-in_default-3-clause-number
returns-in_default-3-clause-number c = within-beyond c.args.low c.args.high 0 c.args.text.now
    (sym c.is_number.ensures ∙ c.if-not-is_number.false) c.in_default.ensures.value.0 c.ranges.high.fits
