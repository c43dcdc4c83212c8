use Rattle.std.proofs.Common.{◌≤◌}
use Rattle.slot_match.specs.Matches.{IsMatch}
use Rattle.random_picks.proofs.Rounding.{AreRounds}
use Rattle.random_picks.proofs.picks.RandomPicks.decide.Given as goal

abbrev pub invariant-loop-done : goal.invariant-loop-done
invariant-loop-done l = record {
  whole : IsMatch l.n l.out;
  used : l.numbers.used ≤ l.done;
  rounds : AreRounds l.n l.rows l.fn.self l.done l.added l.numbers (record { matched = l.out; stream = l.self });
}
