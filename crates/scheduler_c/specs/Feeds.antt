-- The words of what feeds each output.
use Rattle.std.specs.Prelude.{◌≡◌, ℕ, ◌<◌, ◌⊎◌, ◌==◌, if◌then◌else◌, List, Option, None, Some, All, length, map}
use Rattle.rotating_pick.specs.declared.kinds.Kind.{Kind}
use Rattle.rotating_pick.specs.declared.kinds.Kind.TheVariants.{Uni, Multi}
use Rattle.rotating_pick.specs.declared.limits.TheConstants.{LEVELS}
use Rattle.slot_match.specs.declared.matching.Fed.{Fed}
use Rattle.scheduler_c.specs.declared.feeds.FeedWords.{FeedWords}

-- the number of a kind, 0 for unicast and 1 for multicast
abbrev pub kind_word : Kind → ℕ
kind_word Uni = 0
kind_word Multi = 1

-- the words of a free output
abbrev pub no_feed : FeedWords
no_feed = record { input = 4294967295; level = 4294967295; kind = 4294967295 }

-- the words of what feeds an output
abbrev pub feed_words : Option Fed → FeedWords
feed_words None = no_feed
feed_words (Some fed) = record { input = fed.input; level = fed.level; kind = kind_word fed.kind }

-- the kind of a number
abbrev pub kind_from : ℕ → Kind
kind_from word = if word == 0 then Uni else Multi

-- what the words say that feeds an output
abbrev pub feed_from : FeedWords → Option Fed
feed_from words = if words.input == 4294967295 then None else Some (record { input = words.input; level = words.level; kind = kind_from words.kind })

-- the match that the words are
abbrev pub matched_from : List FeedWords → List (Option Fed)
matched_from feeds = map feed_from feeds

-- the words are those of a free output, or of one of n inputs, a level and a kind
abbrev pub IsFeed : ℕ → FeedWords → Type 0
IsFeed n words = (words ≡ no_feed) ⊎ ((words.input < n) × (words.level < LEVELS) × (words.kind < 2))

-- there are words for each of n outputs
pub record AreFeeds (n : ℕ) (feeds : List FeedWords) : Type 0 where
  pub count : length feeds ≡ n
  pub each : All (IsFeed n) feeds
