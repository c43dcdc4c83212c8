use Rattle.std.proofs.Common.{arith}
use Rattle.std.proofs.lemmas.List.Elements.{All-get_or}
use Rattle.rotating_pick.specs.PortSets.{IsAmong}
use Rattle.rotating_pick.proofs.Bits.{Has-lt}
use Rattle.islip_rounds.proofs.kernels.transpose_few.Goals as goal

pub scatter-requires-clause-row : goal.scatter-requires-clause-row
scatter-requires-clause-row c j has =
    let among = All-get_or (IsAmong c.args.n) c.args.rows.now c.loop-i.i 0 (omega arith) c.requires.among in
    let j_in = Has-lt c.args.n _ j among has in
    omega arith
