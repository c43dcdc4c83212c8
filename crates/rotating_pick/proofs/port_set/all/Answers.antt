use Rattle.rotating_pick.proofs.Bits.{IsAmong-from_members}
use Rattle.rotating_pick.proofs.Sets.{Has-all}
use Rattle.rotating_pick.proofs.port_set.all.Goals as goal

pub returns-clause-members : goal.returns-clause-members
returns-clause-members c y = Has-all c.args.n y c.requires.some c.requires.size

pub returns-clause-among : goal.returns-clause-among
returns-clause-among c = IsAmong-from_members c.args.n _ (λ x has. (Has-all c.args.n x c.requires.some c.requires.size).0 has)
