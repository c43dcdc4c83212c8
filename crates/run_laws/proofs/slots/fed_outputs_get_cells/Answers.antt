use Rattle.std.proofs.Common.{◌≡◌, ◌∙◌, ◌+◌, suc, ap, arith}
use Rattle.slot_histories.specs.Slots.{crossed_under}
use Rattle.run_laws.specs.Runs.{setup_for, posts_under}
use Rattle.run_laws.proofs.Crossed.{fed-cell, cell-fed}
use Rattle.run_laws.proofs.slots.fed_outputs_get_cells.Goals as goal

pub returns-clause-cell : goal.returns-clause-cell
returns-clause-cell c scheduler plan j t cell scheduling good is =
    let next : suc t ≡ t + 1 = omega arith in
    cell-fed scheduler scheduling plan good j t cell (ap (crossed_under scheduler (setup_for plan) (posts_under scheduler plan) j) next ∙ is)

pub returns-clause-fed : goal.returns-clause-fed
returns-clause-fed c scheduler plan j t fed scheduling good feeds =
    let next : t + 1 ≡ suc t = omega arith in
    let found = fed-cell scheduler scheduling plan good j t fed feeds in
    (found.0, ap (crossed_under scheduler (setup_for plan) (posts_under scheduler plan) j) next ∙ found.1)
