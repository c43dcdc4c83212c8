use Rattle.std.proofs.Common.{◌<◌, arith}
use Rattle.rotating_pick.proofs.Bits.{Has-lt}
use Rattle.scheduler_tests.proofs.matches.part_passes_on.Goals as goal

pub change_parts-requires-clause-inside : goal.change_parts-requires-clause-inside
change_parts-requires-clause-inside g c = λ i has.
    let below : i < 3 = Has-lt 3 4 i (omega arith) has in
    let count = c.add.ensures.count in
    let long = c.new-matched.ensures.whole.count in
    omega arith
