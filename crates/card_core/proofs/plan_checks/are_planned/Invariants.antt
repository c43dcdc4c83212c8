use Rattle.card_core.proofs.Ascending.{ArePlannedBefore}
use Rattle.card_core.proofs.plan_checks.are_planned.Given as goal

abbrev pub invariant-loop-packet : goal.invariant-loop-packet
invariant-loop-packet l = ArePlannedBefore l.n l.bytes l.packets l.packet-index
