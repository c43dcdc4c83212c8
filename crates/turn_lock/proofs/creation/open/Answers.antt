use Rattle.std.proofs.Common.{rules, refl}
use Rattle.turn_lock.specs.declared.rule.Stamped.{Stamped}
use Rattle.turn_lock.proofs.Ends.{opens_of}
use Rattle.turn_lock.proofs.creation.open.Goals as goal

pub new-requires : goal.new-requires
new-requires g c =
    let x : Stamped g.row.K.Denot = record { value = c.args.value; turns = 0 } in
    let pushed = c.push.ensures.items in
    let empty = c.new-slots.ensures.items in
    let is_ok = c.if-is_err.ensures.negation in
    opens_of g.K.Kept.entries g.K.Kept.numbers g.K.Kept.may_add x c.of.result.value c.args.seats c.push.new.self.items c.of.ensures (search rules) refl
