-- How the words of what feeds each output are written.
use Rattle.std.specs.Prelude.{◌≡◌, ℕ, ◌<◌, List, Option, length, slice_index_or}
use Rattle.rotating_pick.specs.declared.kinds.Kind.TheVariants.{Uni}
use Rattle.slot_match.specs.declared.matching.Fed.{Fed}
use Rattle.slot_match.specs.Matches.{fed_of}
use Rattle.scheduler_c.specs.declared.feeds.FeedWords.{FeedWords}
use Rattle.scheduler_c.specs.Feeds.{no_feed, feed_words}

-- what feeds an output is unicast of level 0
abbrev pub IsBest : Fed → Type 0
IsBest fed = (fed.level ≡ 0) × (fed.kind ≡ Uni)

-- the words of each output are those of what the match feeds it by
pub record AreWritten (matched : List (Option Fed)) (feeds : List FeedWords) : Type 0 where
  pub count : length feeds ≡ length matched
  pub each : (j : ℕ) → j < length matched → slice_index_or feeds j no_feed ≡ feed_words (fed_of matched j)
