use Rattle.rotating_pick.proofs.Bits.{Has-lt, IsAmong-from_members}
use Rattle.rotating_pick.proofs.port_set.is_among.Goals as goal

pub returns-clause-among : goal.returns-clause-among
returns-clause-among c = (
  λ true. IsAmong-from_members c.args.n c.args.ports (λ x has. (c.all.ensures.members x).0 (c.is_subset.ensures.0 true x has)),
  λ among. c.is_subset.ensures.1 (λ x has. (c.all.ensures.members x).1 (Has-lt c.args.n c.args.ports x among has)),
)
