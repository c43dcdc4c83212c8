use Rattle.std.proofs.Common.{◌≡◌, [], replicate}
use Rattle.packet_times.proofs.ends.no_ends.Given as goal

abbrev pub invariant-loop-place : goal.invariant-loop-place
invariant-loop-place l = l.ends.items ≡ replicate l._place []
