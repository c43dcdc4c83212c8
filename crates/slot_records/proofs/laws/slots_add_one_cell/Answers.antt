use Rattle.std.proofs.Common.{◌≡◌, suc, ◌+◌, ◌≤◌, [], length, subst, arith}
use Rattle.run_laws.specs.Crossings.{cells_under}
use Rattle.slot_records.proofs.Adding.{few_cells, few_messages}
use Rattle.slot_records.proofs.laws.slots_add_one_cell.Goals as goal

pub returns-clause-cells : goal.returns-clause-cells
returns-clause-cells c = λ scheduler plan j slots.
    subst (λ x. length (cells_under scheduler plan j x) ≤ slots) (let e : suc slots ≡ slots + 1 = omega arith in e) (few_cells scheduler plan j slots)

pub returns-clause-messages : goal.returns-clause-messages
returns-clause-messages c = λ scheduler plan j slots. few_messages [] (cells_under scheduler plan j slots)
