use Rattle.run_laws.specs.Runs.{card_at, parts_under}
use Rattle.run_laws.proofs.Base.{good-card}
use Rattle.queue_measures.proofs.Sums.{add-up}
use Rattle.queue_measures.proofs.laws.lines_add_up.Goals as goal

pub returns : goal.returns
returns c scheduler plan slots good early i inside =
    let card = good-card plan good i inside in
    add-up (card_at plan i) card.good (parts_under scheduler plan i slots) slots (early i inside)
