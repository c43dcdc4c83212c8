use Rattle.std.proofs.Common.{arith}
use Rattle.std.proofs.lemmas.Fmt.{length-decimal-le}
use Rattle.packet_times.proofs.fields.put_number.Goals as goal

pub write_digits-at-requires : goal.write_digits-at-requires
write_digits-at-requires c =
    (omega (arith, c.requires.room, length-decimal-le 20 c.args.number (omega arith) (omega arith) c.ranges.number.fits), c.requires.inside)

pub put_before-requires-clause-room : goal.put_before-requires-clause-room
put_before-requires-clause-room c =
    omega (arith, c.requires.room, c.write_digits-at.ensures.start, length-decimal-le 20 c.args.number (omega arith) (omega arith) c.ranges.number.fits)

pub returns-clause-short : goal.returns-clause-short
returns-clause-short c =
    omega
    (arith, c.put_before.ensures.place, c.write_digits-at.ensures.start, length-decimal-le 20 c.args.number (omega arith) (omega arith) c.ranges.number.fits)
