use Rattle.std.proofs.Common.{List, sym, subst}
use Rattle.slot_match.specs.declared.rows.Row.{Row}
use Rattle.slot_match.specs.Rows.{AreWithin}
use Rattle.arrival_queues.proofs.Asking.{rows-within}
use Rattle.arrival_queues.proofs.queues.ArrivalQueues.rows.Goals as goal

pub returns-clause-within : goal.returns-clause-within
returns-clause-within c =
    let s = c.self.inside in
    rw (← c.self.view_is) (subst (λ (rows : List Row). AreWithin s.ports rows) (sym c.self.invariant.asked) (rows-within _))
