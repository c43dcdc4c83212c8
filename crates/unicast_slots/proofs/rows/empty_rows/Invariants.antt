use Rattle.std.proofs.Common.{◌≡◌, replicate}
use Rattle.slot_match.specs.Rows.{empty_row}
use Rattle.unicast_slots.proofs.rows.empty_rows.Given as goal

abbrev pub invariant-loop : goal.invariant-loop
invariant-loop l = l.rows.items ≡ replicate l.counter empty_row
