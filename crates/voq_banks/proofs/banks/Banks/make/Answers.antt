use Rattle.std.proofs.Common.{◌∙◌, ap}
use Rattle.voq_banks.specs.Queues.{queue_at}
use Rattle.voq_banks.proofs.Banking.{AreKept-empty, queues-empty, queue_at-empty}
use Rattle.voq_banks.proofs.banks.Banks.make.Goals as goal

pub invariant_of-result : goal.invariant_of-result
invariant_of-result c = rw c.in_ok-queues.ensures (AreKept-empty c.args.n c.args.depth c.args.room.now c.requires.ports c.requires.queues)

pub returns-clause-banks : goal.returns-clause-banks
returns-clause-banks c = rw c.in_ok-queues.ensures (queues-empty c.args.n c.args.depth c.args.room.now)

pub returns-clause-empty : goal.returns-clause-empty
returns-clause-empty c =
    λ output level. rw c.in_ok-queues.ensures (ap (λ all. queue_at all output level) (queues-empty c.args.n c.args.depth c.args.room.now)
    ∙ queue_at-empty c.args.n c.args.depth c.args.room.now output level)
