use Rattle.std.proofs.Common.{◌≡◌, ℕ, ◌<◌, slice_index_or}
use Rattle.slot_match.specs.Matches.{fed_of}
use Rattle.scheduler_c.specs.Feeds.{no_feed, feed_words}
use Rattle.scheduler_c.proofs.feeds.put_best.Given as goal

abbrev pub invariant-loop-output : goal.invariant-loop-output
invariant-loop-output l = (j : ℕ) → j < l.output → slice_index_or l.feeds j no_feed ≡ feed_words (fed_of l.matched j)
