use Rattle.unicast_slots.proofs.Keeping.{AreKept-first}
use Rattle.unicast_slots.proofs.rows.UnicastRows.make.Goals as goal

pub invariant_of-result : goal.invariant_of-result
invariant_of-result c = AreKept-first c.args.n _ _ c.requires c.in_ok-empty_rows.ensures c.empty_columns.ensures
