-- The counters tell what the card was served.
use Rattle.std.proofs.Common.{◌≡◌, List, false}
use Rattle.crossbar.specs.declared.cards.Taken.{Taken}
use Rattle.card_core.specs.Cards.{IsAfter, served_in}
use Rattle.queue_lengths.specs.Counters.{CountBefore}
use Rattle.plan_tests.proofs.lengths.cells_wait_as_the_card_says.Given as goal

abbrev pub invariant-loop-want : goal.invariant-loop-want
invariant-loop-want g l =
    (takings : List Taken) × IsAfter l.card takings false × CountBefore l.card.sends.plan l.queues (served_in takings) × (l.card.sends.plan.ports ≡ 2)
