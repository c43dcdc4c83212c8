use Rattle.std.proofs.Common.{length}
use Rattle.turn_lock.proofs.Collecting.{IsCollected}
use Rattle.turn_lock.proofs.turn.Turn.close.Given as goal

abbrev pub invariant-loop-next : goal.invariant-loop-next
invariant-loop-next g l = IsCollected l.fn.self l.fn.seats.items l.rest.items l.dealer.table_id l.dealer.me.0

abbrev pub decreases-loop-next : goal.decreases-loop-next
decreases-loop-next g l = length l.rest.items
