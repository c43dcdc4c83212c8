use Rattle.std.proofs.Common.{◌∙◌, sym, arith}
use Rattle.delay_counts.proofs.Numbers.{left_of_zeros, left_out-is}
use Rattle.delay_counts.proofs.places.bits_left_out.Goals as goal

pub returns-clause-value : goal.returns-clause-value
returns-clause-value c =
    c.saturating_sub.ensures ∙ sym (left_out-is c.args.delay _ (left_of_zeros 32 c.args.delay c.ranges.delay.fits (omega arith)))
