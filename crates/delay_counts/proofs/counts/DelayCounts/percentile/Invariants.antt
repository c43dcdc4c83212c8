use Rattle.std.proofs.Common.{◌≡◌, ◌⊎◌, ◌*◌, ◌<◌, take}
use Rattle.std.specs.List.{sum}
use Rattle.delay_counts.proofs.counts.DelayCounts.percentile.Given as goal

abbrev pub invariant-loop-place : goal.invariant-loop-place
invariant-loop-place l = record {
  counted : l.seen ≡ sum (take l.place l.self-inside.counts.items);
  early : (l.place ≡ 0) ⊎ (10000 * l.seen < l.wanted);
}
