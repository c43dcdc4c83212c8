use Rattle.std.proofs.Common.{◌<◌, List, length, subst, sym}
use Rattle.slot_match.specs.declared.rows.Row.{Row}
use Rattle.unicast_slots.proofs.Keeping.{AreKept-no_more}
use Rattle.unicast_slots.proofs.rows.UnicastRows.ask_no_more.Goals as goal

pub invariant_of-self : goal.invariant_of-self
invariant_of-self c =
    let s = c.self.inside in
    let input_in = subst (λ (rows : List Row). c.args.input < length rows) (sym c.self.view_is) c.requires.input in
    AreKept-no_more s.rows.items _ s.columns _ s.asked _ c.self.invariant c.args.input c.args.output input_in c.requires.output c.ask_no_more.ensures
    c.leave.ensures.column
