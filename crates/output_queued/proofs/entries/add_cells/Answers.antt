use Rattle.std.proofs.Common.{arith}
use Rattle.output_queued.proofs.entries.add_cells.Goals as goal

pub without-left-requires : goal.without-left-requires
without-left-requires c = let inside = c.requires.fan c.in-Some.output (c.loop-output.invariant.inside c.in-Some.output c.in-Some.ensures.member) in
    let size = c.requires.size in omega arith
