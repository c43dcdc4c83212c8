use Rattle.std.proofs.Common.{Some, ap, sym, ◌∙◌, ◌∷◌}
use Rattle.atomic_table.specs.Table.{rest}
use Rattle.turn_lock.proofs.steps.take_out.Goals as goal

pub exchange-requires : goal.exchange-requires
exchange-requires g c = let e = c.requires.slot.1 in
    (c.requires.table, (Some c.requires.slot.0, e ∙ ap (λ ys. (0, Some c.requires.slot.0) ∷ ys) (sym (ap rest e))))
