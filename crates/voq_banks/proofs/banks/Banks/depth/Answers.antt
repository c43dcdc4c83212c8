use Rattle.voq_banks.proofs.Banking.{depth-within}
use Rattle.voq_banks.proofs.banks.Banks.depth.Goals as goal

pub returns-clause-within : goal.returns-clause-within
returns-clause-within c =
    let s = c.self.inside in
    rw (← c.self.view_is) (depth-within s.ports s.depth s.queues.items s.masks c.self.invariant)
