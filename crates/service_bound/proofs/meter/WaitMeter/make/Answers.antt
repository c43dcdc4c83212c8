use Rattle.std.proofs.Common.{[], refl}
use Rattle.service_bound.proofs.Noting.{HasNoted-first}
use Rattle.service_bound.proofs.meter.WaitMeter.make.Goals as goal

pub invariant_of-result : goal.invariant_of-result
invariant_of-result c = ([], rw c.in_ok-queues.ensures (HasNoted-first c.args.n c.requires.some c.requires.size))

pub returns : goal.returns
returns c = (refl, rw c.in_ok-queues.ensures (HasNoted-first c.args.n c.requires.some c.requires.size))
