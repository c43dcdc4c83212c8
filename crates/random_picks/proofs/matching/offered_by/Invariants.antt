use Rattle.std.proofs.Common.{◌≡◌, length}
use Rattle.islip_rounds.proofs.Collecting.{AreOffers}
use Rattle.random_picks.proofs.matching.offered_by.Given as goal

abbrev pub invariant-loop-j : goal.invariant-loop-j
invariant-loop-j l = record {
  long : length l.offered ≡ 64;
  offers : AreOffers l.granted l.j l.offered;
}
