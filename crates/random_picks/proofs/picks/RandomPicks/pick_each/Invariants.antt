use Rattle.std.proofs.Common.{◌≡◌, ◌<◌, ℕ, length}
use Rattle.rotating_pick.specs.declared.limits.TheConstants.{MAX_PORTS}
use Rattle.random_picks.specs.Picks.{picked, stream_before}
use Rattle.random_picks.specs.PickSteps.{AreMembers, choices_in, pick_at}
use Rattle.random_picks.proofs.picks.RandomPicks.pick_each.Given as goal

abbrev pub invariant-loop-k : goal.invariant-loop-k
invariant-loop-k l = record {
  long : length l.picks ≡ MAX_PORTS;
  stream : l.self ≡ stream_before (choices_in l.sets) l.fn.self l.k;
  picks : (j : ℕ) → j < l.k → pick_at l.picks j ≡ picked (choices_in l.sets) l.fn.self j;
  members : AreMembers l.k l.sets l.picks;
}
