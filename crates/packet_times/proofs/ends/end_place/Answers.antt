use Rattle.std.proofs.Common.{refl, arith}
use Rattle.packet_times.proofs.Places.{ends-own}
use Rattle.packet_times.proofs.ends.end_place.Goals as goal

pub returns-then-from-lt-LEVELS-clause-some : goal.returns-then-from-lt-LEVELS-clause-some
returns-then-from-lt-LEVELS-clause-some c =
    let cell = c.in_ok-cell.cell in
    record {
      flow = record { input = c.from-input.result; output = c.args.output; level = cell.level; kind = cell.kind };
      is_flow = record { input = omega arith; output = omega arith; level = omega arith };
      goes = refl;
      ends = ends-own c.from-input.result c.args.output c.args.cell cell c.in_ok-cell.was c.if-cell.true c.from-input.ensures;
      is = c.place_of_flow.ensures.value;
    }
