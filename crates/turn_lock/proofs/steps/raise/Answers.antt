use Rattle.std.proofs.Common.{arith}
use Rattle.turn_lock.specs.Openings.{opening}
use Rattle.turn_lock.proofs.Counting.{raise_of}
use Rattle.turn_lock.proofs.steps.raise.Goals as goal

pub store-requires : goal.store-requires
store-requires g c = (
  c.requires.table,
  omega (arith, c.requires.words),
  raise_of g.K.Kept.entries g.K.Kept.numbers g.K.Kept.may_add
      (opening g.K.Kept.entries g.K.Kept.numbers c.args.words.now.key.value.value c.args.words.now.key.seats) c.args.words.now.table_id.slots
      c.args.seat.now.id c.args.seat.now.me c.requires.live.0 c.requires.value.0 c.args.turns c.requires.value.1 c.requires.phase c.requires.turns
      c.requires.live.1 c.requires.number c.requires.value.2,
)
