use Rattle.std.proofs.Common.{◌≡◌, subst, arith, tests}
use Rattle.rotating_pick.specs.PortSets.{Has}
use Rattle.rotating_pick.proofs.Bits.{no_member-zero, zero-no_members}
use Rattle.rotating_pick.proofs.port_set.is_empty.Goals as goal

pub returns-clause-members : goal.returns-clause-members
returns-clause-members c = (
  λ true x has. let zero_set : c.args.ports ≡ 0 = grind (arith, tests, true) in no_member-zero x (subst (λ ports. Has ports x) zero_set has),
  λ none. let zero_set : c.args.ports ≡ 0 = zero-no_members c.args.ports none in grind (arith, tests, zero_set),
)
