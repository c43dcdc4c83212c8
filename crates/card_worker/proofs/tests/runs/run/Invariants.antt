use Rattle.card_worker.specs.Groups.{AreGroups}
use Rattle.card_worker.proofs.tests.runs.run.Given as goal

abbrev pub invariant-loop : goal.invariant-loop
invariant-loop g l = AreGroups l.board l.board.seats l.groups.items
