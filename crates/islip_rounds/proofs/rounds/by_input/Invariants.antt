use Rattle.std.proofs.Common.{◌≡◌, length}
use Rattle.islip_rounds.proofs.Collecting.{AreOffers}
use Rattle.islip_rounds.proofs.rounds.by_input.Given as goal

abbrev pub invariant-loop-j : goal.invariant-loop-j
invariant-loop-j l = record {
  long : length l.offers ≡ 64;
  offers : AreOffers l.granted l.j l.offers;
}
