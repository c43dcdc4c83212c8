use Rattle.std.proofs.Common.{arith, tests}
use Rattle.std.proofs.lemmas.Nat.{one_shl, pow_pos}
use Rattle.std.proofs.lemmas.Nat.Bits.{and_pow}
use Rattle.rotating_pick.proofs.port_set.contains.Goals as goal

pub returns : goal.returns
returns c = grind (arith, tests, one_shl c.args.x 64 c.requires, and_pow c.args.ports c.args.x, pow_pos c.args.x)
