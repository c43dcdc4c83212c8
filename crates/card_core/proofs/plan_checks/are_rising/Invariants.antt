use Rattle.card_core.proofs.Ascending.{RisesTo}
use Rattle.card_core.proofs.plan_checks.are_rising.Given as goal

abbrev pub invariant-loop-packet : goal.invariant-loop-packet
invariant-loop-packet l = RisesTo l.packets l.packet-index l.least
