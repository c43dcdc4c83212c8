use Rattle.std.proofs.Common.{arith}
use Rattle.turn_lock.specs.Openings.{opening}
use Rattle.turn_lock.proofs.Splitting.{splits}
use Rattle.turn_lock.proofs.creation.deal.Goals as goal

pub split_seat-requires : goal.split_seat-requires
split_seat-requires g c = (
  c.requires.table,
  omega (arith, c.requires.words),
  splits g.K.Kept.entries g.K.Kept.numbers g.K.Kept.may_add
      (opening g.K.Kept.entries g.K.Kept.numbers c.args.words.now.key.value.value c.args.words.now.key.seats) c.args.dealer.now.id c.args.dealer.now.me.0
      c.requires.live c.requires.phase c.requires.some,
)
