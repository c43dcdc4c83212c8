use Rattle.std.proofs.Common.{ap, ◌∙◌, arith}
use Rattle.turn_lock.specs.Openings.{opening}
use Rattle.turn_lock.proofs.Joining.{joins}
use Rattle.turn_lock.proofs.close.join.Goals as goal

pub join_seat-requires : goal.join_seat-requires
join_seat-requires g c = (
  c.requires.table,
  ap (λ s. s.turn.table) c.second.view_is ∙ c.requires.second,
  c.second.invariant.slots,
  omega (arith, c.requires.words),
  joins g.K.Kept.entries g.K.Kept.numbers g.K.Kept.may_add
      (opening g.K.Kept.entries g.K.Kept.numbers c.args.words.now.key.value.value c.args.words.now.key.seats) c.args.first.now.id c.second.inside.seat.id
      c.args.first.now.me.0 c.second.inside.seat.me.0 c.requires.first.0 c.requires.first.1 c.second.invariant.live c.second.invariant.phase,
)
