use Rattle.std.proofs.Common.{map}
use Rattle.crossbar.specs.Crossing.{fetched}
use Rattle.packet_times.specs.Steps.{AddsEnds}
use Rattle.packet_times.proofs.ends.note_ends.Given as goal

abbrev pub invariant-loop-output : goal.invariant-loop-output
invariant-loop-output l = AddsEnds l.ports l.slot (fetched l.feeds (map (λ post. post.cell) l.posts)) l.output l.fn.ends.items l.ends.items
