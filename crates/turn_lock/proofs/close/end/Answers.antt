use Rattle.std.proofs.Common.{◌≡◌, Some, None, subst, sym}
use Rattle.std.proofs.lemmas.Option.{same_Some}
use Rattle.turn_lock.specs.declared.rule.Stamped.{Stamped}
use Rattle.turn_lock.specs.Openings.{opening}
use Rattle.turn_lock.specs.Rule.{Ended}
use Rattle.turn_lock.proofs.Ends.{final_value}
use Rattle.turn_lock.proofs.close.end.Goals as goal

pub unreachable-requires : goal.unreachable-requires
unreachable-requires g c =
    let o = opening g.K.Kept.entries g.K.Kept.numbers c.args.table.shared.key.value.value c.args.table.shared.key.seats in
    let r = final_value g.K.Kept.entries g.K.Kept.numbers g.K.Kept.may_add o c.args.seat.id c.args.seat.me.0 c.requires.idle.0 c.requires.idle.1
    c.requires.idle.2 c.requires.all _ _ c.close_with-closed.ensures.values.2 _ c.in-None.ensures.value in
    let e : None ≡ Some r.0 = r.1 in cc

pub returns : goal.returns
returns g c =
    let o = opening g.K.Kept.entries g.K.Kept.numbers c.args.table.shared.key.value.value c.args.table.shared.key.seats in
    let r = final_value g.K.Kept.entries g.K.Kept.numbers g.K.Kept.may_add o c.args.seat.id c.args.seat.me.0 c.requires.idle.0 c.requires.idle.1
    c.requires.idle.2 c.requires.all _ _ c.close_with-closed.ensures.values.2 _ c.in-Some.ensures.value in
    subst (λ (x : Stamped g.row.K.Denot). Ended g.K.Kept.entries g.K.Kept.numbers g.K.Kept.may_add o c.args.seat.me.0 x.value)
    (sym (same_Some c.in-Some.stamped r.0 r.1)) r.2
