use Rattle.std.proofs.Common.{arith}
use Rattle.turn_lock.specs.Openings.{opening}
use Rattle.turn_lock.proofs.Taking.{take_of}
use Rattle.turn_lock.proofs.steps.take.Goals as goal

pub compare_exchange-requires : goal.compare_exchange-requires
compare_exchange-requires g c = (
  c.requires.table,
  omega (arith, c.requires.words),
  take_of g.K.Kept.entries g.K.Kept.numbers g.K.Kept.may_add
      (opening g.K.Kept.entries g.K.Kept.numbers c.args.words.now.key.value.value c.args.words.now.key.seats) c.args.words.now.table_id.slots
      c.args.seat.now.id c.args.seat.now.me c.requires.live c.requires.slots c.requires.phase,
)
