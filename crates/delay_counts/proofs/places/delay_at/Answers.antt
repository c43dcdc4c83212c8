use Rattle.std.proofs.Common.{arith}
use Rattle.delay_counts.proofs.Numbers.{at_shifted, place_count-is}
use Rattle.delay_counts.proofs.places.delay_at.Goals as goal

pub overflow_shl-result : goal.overflow_shl-result
overflow_shl-result c = omega (arith, c.requires, place_count-is)

pub returns : goal.returns
returns c = at_shifted c.args.place c.if-place-lt-EXACT.false c.requires
