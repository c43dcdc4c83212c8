use Rattle.std.proofs.Common.{◌≡◌, take}
use Rattle.packet_times.proofs.times.keep_feeds.Given as goal

abbrev pub invariant-loop-output : goal.invariant-loop-output
invariant-loop-output l = l.feeds.items ≡ take l.output l.matched
