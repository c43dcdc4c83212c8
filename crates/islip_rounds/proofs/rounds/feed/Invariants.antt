use Rattle.std.proofs.Common.{◌≡◌, length}
use Rattle.islip_rounds.proofs.Collecting.{AreFed}
use Rattle.islip_rounds.proofs.rounds.feed.Given as goal

abbrev pub invariant-loop-i : goal.invariant-loop-i
invariant-loop-i l = record {
  long : length l.fed ≡ 64;
  fed : AreFed l.fn.fed l.accepted l.i l.fed;
}
