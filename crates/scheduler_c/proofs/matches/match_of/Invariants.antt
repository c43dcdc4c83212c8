use Rattle.std.proofs.Common.{◌≡◌, ℕ, ◌<◌, ◌≤◌, None, length, slice_index_or}
use Rattle.slot_match.specs.Matches.{fed_of, IsMatch}
use Rattle.scheduler_c.specs.Feeds.{no_feed, feed_from}
use Rattle.scheduler_c.proofs.matches.match_of.Given as goal

abbrev pub invariant-loop-output : goal.invariant-loop-output
invariant-loop-output l = record {
  count : length l.matched ≡ l.n;
  done : (j : ℕ) → j < l.output → fed_of l.matched j ≡ feed_from (slice_index_or l.feeds j no_feed);
  rest : (j : ℕ) → l.output ≤ j → fed_of l.matched j ≡ None;
  whole : IsMatch l.n l.matched;
}
