use Rattle.std.proofs.Common.{arith}
use Rattle.delay_counts.proofs.Numbers.{place_count-is}
use Rattle.delay_counts.proofs.Shares.{place_of-short}
use Rattle.delay_counts.proofs.places.place_of.Goals as goal

pub overflow_add-result : goal.overflow_add-result
overflow_add-result c = rw c.bits_left_out-bits.ensures.value (omega (arith, place_of-short c.args.delay c.ranges.delay.fits, place_count-is))

pub returns-clause-within : goal.returns-clause-within
returns-clause-within c = rw c.bits_left_out-bits.ensures.value (place_of-short c.args.delay c.ranges.delay.fits)
