use Rattle.std.proofs.Common.{◌≡◌, take}
use Rattle.card_worker.specs.Disbanding.{member_count}
use Rattle.card_worker.proofs.disbandment.count.Given as goal

abbrev pub invariant-loop-group : goal.invariant-loop-group
invariant-loop-group l = l.count ≡ member_count (take l.group-index l.groups)
